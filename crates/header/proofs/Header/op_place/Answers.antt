use native.Mathlib.Omega.{arith}
use Rattle.spec.specs.Job.{op_place}
use Rattle.header.proofs.Header.op_place.Goals as goal

pub returns : goal.returns
unfolding op_place
returns c = omega arith
