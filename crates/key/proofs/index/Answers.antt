-- The first bits of the call's pseudo key.
use Rattle.spec.specs.Key.{index}
use Rattle.key.proofs.index.Goals as goal

pub returns : goal.returns
unfolding index
returns c = rw (← c.pseudo_key.ensures) c.first_bits.ensures
