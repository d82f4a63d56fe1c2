-- A shift to the right is a quotient.
use Rattle.std.proofs.Common.{refl, rules}
use Rattle.spec.specs.Key.{first_bits}
use Rattle.laws.specs.Key.{first_bits-lt}
use Rattle.key.proofs.first_bits.Goals as goal

pub returns : goal.returns
unfolding first_bits
returns c = (refl, first_bits-lt c.args.depth c.args.key c.requires (search rules))
