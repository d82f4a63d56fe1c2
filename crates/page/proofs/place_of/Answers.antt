use Rattle.std.proofs.Common.{◌≡◌, ◌∙◌, sym, ap, ◌+◌, ◌-◌, ◌<◌, arith}
use Rattle.page.specs.View.{record_at, records_from, left_more, left_none}
use Rattle.page.specs.PutLaws.{place_none, place_here, place_later}
use Rattle.page.proofs.place_of.Goals as goal

pub returns-then-call-rec_at : goal.returns-then-call-rec_at
returns-then-call-rec_at c =
    let l = c.loop-i in
    let a = c.args in
    let s = a.page.now in
    let above : a.call < (record_at s l.i).call = rw (← c.rec_at.ensures) c.if-call-rec_at.true in
    let here = place_here (record_at s l.i) (records_from s (l.i + 1) (a.n - (l.i + 1))) a.call above in
    (sym (l.invariant ∙ rw (left_more s l.i a.n (omega arith), here) (omega arith)), omega arith)

pub loop-i-preserved : goal.loop-i-preserved
loop-i-preserved c =
    let l = c.loop-i in
    let a = c.args in
    let s = a.page.now in
    let it = ap (λ r. r.call) c.rec_at.ensures in
    let later = place_later (record_at s l.i) (records_from s (l.i + 1) (a.n - (l.i + 1))) a.call (omega (arith, it, c.if-call-rec_at.false)) in
    l.invariant ∙ rw (left_more s l.i a.n (omega arith), later) (omega arith)

pub returns : goal.returns
returns c =
    let l = c.loop-i in
    let a = c.args in
    let all : l.i ≡ a.n = omega arith in
    (sym (l.invariant ∙ rw (left_none a.page.now l.i a.n (omega arith), place_none a.call) (omega arith)), omega arith)
