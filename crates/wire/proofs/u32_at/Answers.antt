use Rattle.std.proofs.Common.{◌≡◌, ◌+◌, arith}
use Rattle.spec.specs.Bytes.{byte, word, long}
use Rattle.wire.proofs.u32_at.Goals as goal

pub returns : goal.returns
unfolding long word byte
returns c =
    let e : c.args.at + 2 + 1 ≡ c.args.at + 3 = omega arith in
    rw e (omega arith)
