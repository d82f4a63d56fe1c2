-- Two numbers, one behind another.
use Rattle.std.proofs.Common.{◌≡◌, ◌+◌, ◌*◌, arith}
use Rattle.page.specs.ImageLaws.{over_record}
use Rattle.page.proofs.put_rec.Goals as goal

pub returns : goal.returns
returns c =
    let a = c.args in
    let e : 4 + 8 * a.i + 4 ≡ 8 + 8 * a.i = omega arith in
    cc (over_record a.page.now (4 + 8 * a.i) a.r, e)
