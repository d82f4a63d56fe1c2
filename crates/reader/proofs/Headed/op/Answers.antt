use native.Mathlib.Omega.{arith}
use Rattle.reader.specs.PartLaws.{length-ops}
use Rattle.reader.proofs.Headed.op.Goals as goal

pub op_at-requires : goal.op_at-requires
op_at-requires c = rw c.operations.ensures (omega (arith, length-ops c.args.self.heads, c.requires))

pub returns : goal.returns
returns c = rw (← c.operations.ensures) c.op_at.ensures
