use native.Mathlib.Omega.{arith}
use Rattle.spec.specs.Job.{table_offset, ops_offset}
use Rattle.header.proofs.Header.ops_offset.Goals as goal

pub returns : goal.returns
unfolding ops_offset table_offset
returns c = omega (arith, c.file_length.ensures)
