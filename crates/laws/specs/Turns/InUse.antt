-- "no page number comes back into use during a run": a page in use stays in use, since no turn gives a page back.
use Rattle.std.specs.Prelude.{ℕ, zero, suc, ◌+◌, ◌-◌, ◌≤◌, ◌≡◌, List, length}
use Rattle.std.proofs.Common.{arith, le_refl}
use Rattle.spec.specs.declared.Op.{Op}
use Rattle.spec.specs.Job.{Job}
use Rattle.spec.specs.State.{State}
use Rattle.spec.specs.Run.{step}
use Rattle.spec.specs.Claims.{state_at}
use Rattle.spec.specs.Tidied.{StaysInUse}
use Rattle.laws.specs.Turns.Rows.{step_case}
use Rattle.laws.specs.Turns.States.{who, state_at-suc}

step-used : (ops : List Op) (s : State) (i : ℕ) → s.file.used ≤ (step ops s i).file.used
step-used ops s i = step_case (λ (t : State). s.file.used ≤ t.file.used) ops s i (le_refl _) (λ lt e. omega arith)

used_for : (j : Job) (t d : ℕ) → t + d ≤ length j.turns → (state_at j t).file.used ≤ (state_at j (t + d)).file.used
used_for j t zero l = let z : t + zero ≡ t = omega arith in rw z (le_refl _)
used_for j t (suc d) l =
    let z : t + suc d ≡ suc (t + d) = omega arith in
    let ih = used_for j t d (omega arith) in
    let up = step-used j.ops (state_at j (t + d)) (who j (t + d)) in
    rw (z, state_at-suc j (t + d) (omega arith)) (omega arith)

pub stays_in_use : StaysInUse
stays_in_use j t u x l k n =
    let z : t + (u - t) ≡ u = omega arith in
    let up = rw z at (used_for j t (u - t) (omega arith)) in
    (n.0, omega (arith, n.1))
