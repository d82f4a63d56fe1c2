use native.Mathlib.Omega.{arith}
use Rattle.spec.specs.Job.{total}
use Rattle.header.proofs.Header.total.Goals as goal

pub returns : goal.returns
unfolding total
returns c = omega arith
