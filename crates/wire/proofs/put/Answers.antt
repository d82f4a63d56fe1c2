use Rattle.std.proofs.Common.{◌≡◌, ◌+◌, ◌-◌, arith, take, ◌∙◌, ap}
use Rattle.wire.specs.Low.{low, length_low}
use Rattle.wire.specs.Parts.{over_between}
use Rattle.wire.proofs.put.Goals as goal

pub returns : goal.returns
unfolding low
returns g c =
    let a = c.args in
    let n = g.row.N in
    let e : a.at + n - a.at ≡ n = omega arith in
    let bytes : c.copy_from_slice.new.self ≡ low n a.v = c.copy_from_slice.ensures.after ∙ ap (take n) c.to_le_bytes.ensures in
    over_between a.s.now (low n a.v) c.copy_from_slice.new.self a.at (a.at + n) bytes (omega (arith, length_low n a.v)) (omega arith) (omega arith)
