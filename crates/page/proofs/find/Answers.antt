-- `page::find` meets its contract: the answer is the answer among the records that are left.
use mathlib.Core.List.{List, ◌∷◌}
use mathlib.Core.Path.{◌≡◌, sym, ap, ◌∙◌}
use Prim.Native.Nat.{ℕ, ◌+◌, ◌-◌, ◌≤◌, ◌<◌}
use native.Mathlib.Omega.{arith}
use Rattle.std.specs.Bool.{then_some}
use Rattle.std.specs.Prelude.{eqb, option_map}
use Rattle.std.proofs.Common.{eq-eqb, ne_eqb}
use Rattle.std.proofs.Math.Logic.{by_cases}
use Rattle.std.proofs.Math.Decide.{ℕ_discrete}
use Rattle.spec.specs.declared.Rec.{Rec}
use Rattle.spec.specs.File.{look_in}
use Rattle.laws.specs.Turns.CallsRise.{look_nil, look_hit, look_high, look_low}
use Rattle.page.specs.View.{record_at, records_from, left_all, left_more, left_none}
use Rattle.page.proofs.find.Goals as goal

-- where no later record can be the call's, the next one tells
next_tells : (r : Rec) (rs : List Rec) (k : ℕ) → k ≤ r.call → then_some (eqb r.call k) r.charge ≡ option_map (λ (q : Rec). q.charge) (look_in (r ∷ rs) k)
next_tells r rs k h =
    by_cases (ℕ_discrete r.call k) (λ e. rw (look_hit r rs k e, eq-eqb r.call k e))
    (λ n. rw (look_high r rs k (omega arith), ne_eqb r.call k n))

pub loop-i-init : goal.loop-i-init
loop-i-init c =
    let a = c.args in
    ap (λ rs. look_in rs a.call) (left_all a.page.now c.count-i-end.result c.count-i-end.ensures.1)

pub returns-then-call-r : goal.returns-then-call-r
returns-then-call-r c =
    let l = c.loop-i in
    let a = c.args in
    let n = c.count-i-end.result in
    let s = a.page.now in
    let near : a.call ≤ (record_at s l.i).call = rw c.rec_at-r.ensures at c.if-call-r.true in
    rw (c.then_some-charge.ensures, c.rec_at-r.ensures, l.invariant, left_more s l.i n (omega arith), next_tells (record_at s l.i) (records_from s (l.i + 1) (n - (l.i + 1))) a.call near)

pub loop-i-preserved : goal.loop-i-preserved
loop-i-preserved c =
    let l = c.loop-i in
    let a = c.args in
    let n = c.count-i-end.result in
    let s = a.page.now in
    let it = ap (λ r. r.call) c.rec_at-r.ensures in
    let below : (record_at s l.i).call < a.call = omega (arith, it, c.if-call-r.false) in
    l.invariant ∙ rw (left_more s l.i n (omega arith)) (look_low (record_at s l.i) _ a.call below)

pub returns : goal.returns
returns c =
    let l = c.loop-i in
    let a = c.args in
    rw (l.invariant, left_none a.page.now l.i c.count-i-end.result (omega arith), look_nil a.call)
