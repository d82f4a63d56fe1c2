use Rattle.std.proofs.Common.{◌≡◌, ◌∙◌, refl, sym, ap, true, false, arith, length}
use Rattle.spec.specs.Bytes.{byte}
use Rattle.spec.specs.Job.{page_size}
use Rattle.spec.specs.Encode.{record_bytes}
use Rattle.wire.specs.Over.{over}
use Rattle.page.specs.View.{record_at}
use Rattle.page.specs.KeepLaws.{kept-start, kept_behind, kept-skip, kept-take}
use Rattle.page.proofs.keep.Goals.{then-stays, else-stays}
use Rattle.page.proofs.keep.Goals as goal

pub loop-j-init : goal.loop-j-init
loop-j-init g c = (omega arith, refl, λ f t. kept-start f c.args.page.now)

pub loop-j-preserved : goal.loop-j-preserved
loop-j-preserved g c =
    let l = c.loop-j in
    let s = c.args.page.now in
    let long : length c.if-stays.page ≡ length s = c.if-stays.auto.page ∙ l.invariant.1 in
    elim c.if-stays.branch [
      | then-stays w ↦ (
        omega arith,
        long,
        λ f t.
            let k = l.invariant.2 f t in
            let it : c.rec_at-r.result ≡ record_at s l.j = c.rec_at-r.ensures ∙ kept_behind k in
            let yes : f (record_at s l.j) ≡ true = ap f (sym it) ∙ sym (t _ true w.if-stays.ensures) in
            let put : c.if-stays.page ≡ over l.page (page_size l.kept) (record_bytes (record_at s l.j)) = w.page-is ∙ rw (← it) w.put_rec.ensures in
            rw (put, w.kept-is) (kept-take k yes),
      )
      | else-stays w ↦ (
        omega arith,
        long,
        λ f t.
            let k = l.invariant.2 f t in
            let it : c.rec_at-r.result ≡ record_at s l.j = c.rec_at-r.ensures ∙ kept_behind k in
            let no : f (record_at s l.j) ≡ false = ap f (sym it) ∙ sym (t _ false w.if-stays.ensures) in
            rw (w.page-is, w.kept-is) (kept-skip k no),
      )
    ]

pub returns : goal.returns
returns g c =
    let all : c.loop-j.j ≡ byte c.args.page.now 1 = omega arith in
    λ f t. rw all at (c.loop-j.invariant.2 f t)
