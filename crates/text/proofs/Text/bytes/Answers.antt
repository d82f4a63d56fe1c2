use Rattle.std.proofs.Common.{◌≡◌, refl, ap, ◌∙◌, ◌+◌, ◌-◌, length, arith}
use borrow.Rule.Slice.PartMut.{put_mid}
use Rattle.wire.specs.Over.{over}
use Rattle.wire.specs.OverLaws.{length_over}
use Rattle.wire.specs.Parts.{over_part}
use Rattle.text.proofs.Text.bytes.Goals as goal

pub returns : goal.returns
returns c =
    let t = c.args.self.now in
    let x = c.args.s.now in
    let n = t.len + length x - t.len in
    let put : put_mid t.len n t.out.now c.copy_from_slice.new.self ≡ over t.out.now t.len x =
    ap (put_mid t.len n t.out.now) c.copy_from_slice.ensures.after ∙ over_part t.out.now x t.len n (omega arith) (omega arith) in
    record { lent = refl; kept = ap length put ∙ length_over t.out.now t.len x; wrote = record { bytes = put; stop = refl; near = omega arith } }
