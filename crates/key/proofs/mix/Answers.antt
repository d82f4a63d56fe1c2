use Rattle.std.proofs.Common.{refl}
use Rattle.spec.specs.Key.{mixed}
use Rattle.key.proofs.mix.Goals as goal

pub returns : goal.returns
unfolding mixed
returns c = refl
