use mathlib.Core.Path.{◌≡◌, refl, ◌∙◌}
use Prim.Native.Nat.{◌+◌, ◌-◌, ◌*◌}
use native.Mathlib.Omega.{arith}
use Rattle.result.proofs.Moving.{start, step, end_behind, end_first}
use Rattle.result.proofs.place_line.Goals as goal

pub loop-j-init : goal.loop-j-init
loop-j-init c = start c.args.res.now c.args.at c.args.lines c.args.moment

pub returns-then-t-moment : goal.returns-then-t-moment
returns-then-t-moment c =
    let a = c.args in
    let l = c.loop-j in
    c.put_line.ensures ∙ end_behind (l.j - 1) (a.at + 4 * (l.j - 1)) (omega arith) refl l.invariant a.op (omega arith)

pub loop-j-preserved : goal.loop-j-preserved
loop-j-preserved c =
    let a = c.args in
    let l = c.loop-j in
    let t = c.u16_at-t in
    let i = c.u16_at-i in
    step (l.j - 1) (a.at + 4 * (l.j - 1)) (omega arith) refl l.invariant t.result i.result t.ensures.0 i.ensures.0
    c.put_line-in-loop-j.ensures (omega arith)

pub returns : goal.returns
returns c =
    let l = c.loop-j in
    let z : l.j ≡ 0 = omega arith in
    c.put_line-2.ensures ∙ end_first c.args.op (rw z at l.invariant)
