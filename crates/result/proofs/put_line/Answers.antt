use mathlib.Core.Path.{refl}
use Prim.Native.Nat.{◌+◌}
use Rattle.spec.specs.Bytes.{two}
use Rattle.spec.specs.Result.{line_bytes}
use Rattle.wire.specs.OverLaws.{over-over}
use Rattle.result.proofs.put_line.Goals as goal

pub returns : goal.returns
unfolding line_bytes two
returns c =
    let a = c.args in
    cc (over-over (two a.moment) (two a.op) a.res.now a.at (a.at + 2) refl)
