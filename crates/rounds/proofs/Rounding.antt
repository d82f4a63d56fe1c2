-- Rounds, one after another: the count of turns never falls, a round that deals no turn changes nothing, and so nothing changes from there on; and
-- how long `rounds` goes on.
use Prim.Native.Nat.{ℕ, zero, suc, ◌+◌, ◌≤◌}
use mathlib.Core.Path.{◌≡◌, refl, sym, ap, subst, ◌∙◌}
use mathlib.Core.Logic.{by_cases}
use mathlib.Core.List.{List}
use native.Mathlib.Decide.{dec_le}
use native.Mathlib.Nat.{le_trans}
use native.Mathlib.Numerals.{add-one}
use native.Mathlib.Omega.{arith}
use Rattle.spec.specs.Deal.{max_dealt}
use Rattle.laws.specs.Tools.{if_case}
use Rattle.header.specs.declared.Header.{Header}
use Rattle.rounds.specs.OnTable.{Dealing, give_to, give_up_to, round_on, rounds_on}

-- ---- the count of turns

module _ (h : Header) (b : List ℕ) where
  -- an operation
  give_grows : (i : ℕ) (u : Dealing) → u.turns ≤ (give_to h b i u).turns
  unfolding give_to
  give_grows i u = if_case (λ (v : Dealing). u.turns ≤ v.turns) (λ e. omega arith) (λ e. omega arith)

  give_still : (i : ℕ) (u : Dealing) → (give_to h b i u).turns ≤ u.turns → give_to h b i u ≡ u
  unfolding give_to
  give_still i u = if_case (λ (v : Dealing). v.turns ≤ u.turns → v ≡ u) (λ e l. refl) (λ e l. absurd (omega arith))

  -- the first k operations
  up_grows : (k : ℕ) (u : Dealing) → u.turns ≤ (give_up_to h b k u).turns
  unfolding give_up_to
  up_grows zero u = omega arith
  up_grows (suc k) u = le_trans (up_grows k u) (give_grows k (give_up_to h b k u))

  up_still : (k : ℕ) (u : Dealing) → (give_up_to h b k u).turns ≤ u.turns → give_up_to h b k u ≡ u
  unfolding give_up_to
  up_still zero u l = refl
  up_still (suc k) u l =
      give_still k (give_up_to h b k u) (le_trans l (up_grows k u)) ∙ up_still k u (le_trans (give_grows k (give_up_to h b k u)) l)

  -- ---- rounds
  pub none_dealt : (u : Dealing) → rounds_on h b 0 u ≡ u
  unfolding rounds_on
  none_dealt u = refl

  pub one_more : (k : ℕ) (u : Dealing) → round_on h b (rounds_on h b k u) ≡ rounds_on h b (k + 1) u
  unfolding rounds_on
  one_more k u = subst (λ (j : ℕ). round_on h b (rounds_on h b k u) ≡ rounds_on h b j u) (sym (add-one k)) refl

  -- where a round changes nothing, no later one does
  stays : (k : ℕ) (u : Dealing) → round_on h b (rounds_on h b k u) ≡ rounds_on h b k u → (n : ℕ) → k ≤ n → rounds_on h b n u ≡ rounds_on h b k u
  unfolding rounds_on
  stays k u e zero l = let none : zero ≡ k = omega arith in ap (λ (j : ℕ). rounds_on h b j u) none
  stays k u e (suc n) l =
      by_cases (dec_le k n) (λ m. ap (round_on h b) (stays k u e n m) ∙ e) (λ m. let here : suc n ≡ k = omega arith in ap (λ (j : ℕ). rounds_on h b j u) here)

  -- where there are no operations
  pub nobody : (n : ℕ) (u : Dealing) → h.ops ≡ 0 → rounds_on h b n u ≡ u
  unfolding rounds_on give_up_to
  nobody zero u e = refl
  nobody (suc n) u e = rw e (nobody n u e)

  -- ---- how long `rounds` goes on
  module _ (u : Dealing) where
    -- where dealing stands: after some rounds, each of which dealt a turn
    pub record Upto (s : Dealing) : Type 0 where
      pub rounds : ℕ
      pub dealt : rounds ≤ s.turns
      pub here : s ≡ rounds_on h b rounds u

    pub begun : Upto u
    begun = record { rounds = 0; dealt = omega arith; here = sym (none_dealt u) }

    -- a round more
    module _ (most : (n : ℕ) → (rounds_on h b n u).turns ≤ max_dealt) {s s' : Dealing} (q : Upto s) (r : s' ≡ round_on h b s) where
      next : s' ≡ rounds_on h b (q.rounds + 1) u
      next = r ∙ ap (round_on h b) q.here ∙ one_more q.rounds u

      pub grows : (s.turns ≤ s'.turns) × (s'.turns ≤ max_dealt)
      grows = (rw r (up_grows h.ops s), rw next (most (q.rounds + 1)))

      -- which dealt a turn
      pub onward : (s'.turns ≡ s.turns → ⊥) → Upto s'
      onward n = record { rounds = q.rounds + 1; dealt = omega (arith, q.dealt, grows.0); here = next }

      -- or none, and then no later one does
      pub ended : s'.turns ≡ s.turns → s' ≡ rounds_on h b max_dealt u
      ended e =
          let still : round_on h b s ≡ s = up_still h.ops s (omega (arith, ap (λ (v : Dealing). v.turns) r)) in
          let there : round_on h b (rounds_on h b q.rounds u) ≡ rounds_on h b q.rounds u = rw q.here at still in
          r ∙ still ∙ q.here ∙ sym (stays q.rounds u there max_dealt (omega (arith, q.dealt, grows)))
