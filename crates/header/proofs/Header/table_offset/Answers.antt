use native.Mathlib.Omega.{arith}
use Rattle.spec.specs.Job.{table_offset}
use Rattle.header.proofs.Header.table_offset.Goals as goal

pub returns : goal.returns
unfolding table_offset
returns c = (c.table_at.ensures.0, c.table_at.ensures.1)
