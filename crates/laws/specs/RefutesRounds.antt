-- A test that fails refutes the claim: where a field of `GetsDone` holds, the test of that name in WeighedRounds is true. As in Refutes, each is shown
-- from the field's statement alone (and from `in_turns`, which says that the list tried is made of rounds), whatever the machine is, and whatever the
-- result.
use Rattle.std.specs.Prelude.{ℕ, ◌≡◌, refl, List, [], ◌∷◌, true, length, eqb}
use Rattle.std.proofs.Common.{sym, subst, le_refl, eqb-true, eq-eqb}
use Rattle.std.proofs.Math.Path.{ap}
use Rattle.std.proofs.lemmas.Bool.{false≢true, not-false}
use Rattle.spec.specs.Job.{Job}
use Rattle.spec.specs.Run.{stage_of, run}
use Rattle.spec.specs.Result.{Result}
use Rattle.spec.specs.Rounds.{Rounds, below, most_rounds, sharp_rounds, Complete, GetsDone}
use Rattle.laws.specs.Tools.{and_left, and_right}
use Rattle.laws.specs.Weighed.{same, is_done}
use Rattle.laws.specs.Refutes.{is_not_lem, is_or, is_and, eqb_same, every_true, every_at, same_true, says-done, says_search}
use Rattle.laws.specs.WeighedRounds.{turns_of, done_under, finish, sooner, searches, stay, same_bytes, lacks_nothing, complete, answers}

says_same : (xs ys : List ℕ) → same eqb xs ys ≡ true → xs ≡ ys
unfolding same
says_same [] [] e = refl
says_same [] (y ∷ ys) e = absurd (false≢true e)
says_same (x ∷ xs) [] e = absurd (false≢true e)
says_same (x ∷ xs) (y ∷ ys) e = rw (eqb-true x y (and_left (eqb x y) _ e), says_same xs ys (and_right (eqb x y) _ e))

pub lacks_nothing_true : (j : Job) (r : Result) → Complete j r → lacks_nothing j r ≡ true
unfolding lacks_nothing same_bytes
lacks_nothing_true j r c =
    is_and (is_and (every_true _ _ (λ i l. is_not_lem (λ z. c.answered i l (eqb-true _ _ z)))) (eq-eqb _ _ c.ended))
    (rw c.file (same_true eqb eqb_same refl))

-- The fields, in the claim's order.
module _ (j : Job) (r : Result) (e : GetsDone j r) where
  finish-true : finish j r ≡ true
  unfolding finish done_under is_done
  finish-true = every_true _ _ (λ i l. ap is_done (e.finish _ _ (le_refl _) (e.in_turns _) i l))

  sooner-true : sooner j r ≡ true
  unfolding sooner done_under is_done
  sooner-true = every_true _ _ (λ i l. ap is_done (e.sooner _ _ (le_refl _) (e.in_turns _) i l))

  searches-true : searches j r ≡ true
  unfolding searches done_under is_done
  searches-true =
      every_true _ _ (λ i l. is_or (λ t. ap is_done (e.searches _ _ i (says_search _ (not-false _ t)) (le_refl _) (e.in_turns _))))

  stay-true : stay j r ≡ true
  unfolding stay done_under is_done
  stay-true =
      every_true _ _
      (λ i l. is_or (λ d. ap is_done (e.stay (turns_of j (sharp_rounds j)) (below (length j.ops)) i (says-done _ (not-false _ d)))))

  says_listed : same eqb j.turns (turns_of j (most_rounds j)) ≡ true → Complete j r
  says_listed t = e.answers (most_rounds j) (le_refl _) (subst (Rounds j (most_rounds j)) (sym (says_same j.turns _ t)) (e.in_turns (most_rounds j)))

  complete-true : complete j r ≡ true
  unfolding complete
  complete-true =
      is_or (λ t. lacks_nothing_true j r (e.complete (λ i l. says-done _ (every_at (length j.ops) (λ k. is_done (stage_of (run j) k)) (not-false _ t) i l))))

  answers-true : answers j r ≡ true
  unfolding answers
  answers-true = is_or (λ t. lacks_nothing_true j r (says_listed (not-false _ t)))

  -- all of them
  pub rounds_passes
      : (finish j r ≡ true) × (sooner j r ≡ true) × (searches j r ≡ true) × (stay j r ≡ true) × (complete j r ≡ true) × (answers j r ≡ true)
  rounds_passes = (finish-true, sooner-true, searches-true, stay-true, complete-true, answers-true)
