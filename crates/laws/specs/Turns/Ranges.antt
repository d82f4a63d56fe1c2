-- A range of places of a list set at once (`fill`), and what it does to the locks.
use Prim.Native.Nat.{ℕ, zero, suc, ◌+◌, ◌<◌, ◌≤◌}
use Rattle.std.proofs.Math.Logic.Dec
use Rattle.std.specs.Prelude.{◌≡◌, ◌⊎◌, List, Bool, true, false, length, get_or, set}
use Rattle.std.proofs.Math.Path.{refl}
use Rattle.std.proofs.Common.{sym, ◌∙◌, inl, inr, arith, get_or-set_same, lt-length-set}
use Rattle.std.proofs.Math.Logic.{by_cases}
use Rattle.std.proofs.lemmas.Bool.{false≢true}
use Rattle.std.proofs.Math.Decide.{ℕ_discrete, dec_lt, dec_le}
use Rattle.std.proofs.Math.ListN.{length-set}
use Rattle.std.proofs.Math.Seq.{get_or-set_other}
use Rattle.spec.specs.Run.{fill}
use Rattle.laws.specs.Tools.{within}

-- p is one of the n numbers from a on
abbrev pub Span : ℕ → ℕ → ℕ → Type 0
Span a n p = (a ≤ p) × (p < a + n)

pub span? : (a n p : ℕ) → Dec (Span a n p)
span? a n p = Dec.and (dec_le a p) (dec_lt p (a + n))

module _ {A : Type 0} where
  pub length-fill : (l : List A) (a n : ℕ) (v : A) → length (fill l a n v) ≡ length l
  unfolding fill
  length-fill l a zero v = refl
  length-fill l a (suc n) v = length-fill (set l a v) (suc a) n v ∙ length-set l a v

  pub fill_out : (l : List A) (a n p : ℕ) (v d : A) → (Span a n p → ⊥) → get_or (fill l a n v) p d ≡ get_or l p d
  unfolding fill
  fill_out l a zero p v d h = refl
  fill_out l a (suc n) p v d h =
      fill_out (set l a v) (suc a) n p v d (λ w. h (omega arith)) ∙ get_or-set_other l a p v d (λ e. h (omega arith))

  pub fill_in : (l : List A) (a n p : ℕ) (v d : A) → p < length l → Span a n p → get_or (fill l a n v) p d ≡ v
  unfolding fill
  fill_in l a zero p v d k h = absurd (omega arith)
  fill_in l a (suc n) p v d k h =
      by_cases (ℕ_discrete p a) (λ e. fill_out (set l a v) (suc a) n p v d (λ w. omega arith) ∙ rw e (get_or-set_same l a v d (omega arith)))
      (λ e. fill_in (set l a v) (suc a) n p v d (lt-length-set l a v k) (omega arith))

-- page p is locked
abbrev pub Locked : List Bool → ℕ → Type 0
Locked l p = get_or l p false ≡ true

-- a page that is locked has a lock
locked_lt : (l : List Bool) (p : ℕ) → Locked l p → p < length l
locked_lt l p h = within (λ b. b ≡ true) l p false false≢true h

-- the locks before and after a range of them is set
pub locked_was
    : (l : List Bool) (a n p : ℕ) (v : Bool)
    → Locked (fill l a n v) p
    → (Span a n p × (v ≡ true)) ⊎ ((Span a n p → ⊥) × Locked l p)
locked_was l a n p v h =
    by_cases (span? a n p) (λ w. inl (w, sym (fill_in l a n p v false (lt w) w) ∙ h)) (λ w. inr (w, sym (fill_out l a n p v false w) ∙ h))
  where
    lt : Span a n p → p < length l
    lt w = rw length-fill at (locked_lt (fill l a n v) p h)

pub locked_on : (l : List Bool) (a n p : ℕ) → Locked l p → Locked (fill l a n true) p
locked_on l a n p h =
    by_cases (span? a n p) (λ w. fill_in l a n p true false (locked_lt l p h) w) (λ w. fill_out l a n p true false w ∙ h)
