use native.Mathlib.Omega.{arith}
use Rattle.spec.specs.Job.{turn_place}
use Rattle.header.proofs.Header.turn_place.Goals as goal

pub returns : goal.returns
unfolding turn_place
returns c = omega arith
