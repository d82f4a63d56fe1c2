use native.Mathlib.Omega.{arith}
use Rattle.spec.specs.Job.{turns_offset}
use Rattle.header.proofs.Header.turns_offset.Goals as goal

pub returns : goal.returns
unfolding turns_offset
returns c = omega arith
