use Rattle.std.proofs.Common.{rules}
use Rattle.spec.specs.Bytes.{byte}
use Rattle.wire.proofs.u8_at.Goals as goal

pub returns : goal.returns
unfolding byte
returns c = search rules
