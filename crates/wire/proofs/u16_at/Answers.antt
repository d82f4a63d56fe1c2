use Rattle.std.proofs.Common.{arith}
use Rattle.spec.specs.Bytes.{byte, word}
use Rattle.wire.proofs.u16_at.Goals as goal

pub returns : goal.returns
unfolding word byte
returns c = omega arith
