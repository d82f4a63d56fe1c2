-- A loop over the members of a list that stops at the first fault: what it has passed, and what it answers.
use Rattle.std.specs.Prelude.{ℕ, ◌+◌, ◌<◌, ◌≤◌, ◌≡◌, List, Bool, true, false, length, get_or, Option, None, Some}
use Rattle.std.proofs.Common.{arith, below_none, below_more}
use Rattle.spec.specs.Basics.{when, first_of}
use Rattle.laws.specs.Codec.Walk.{first-none, first-at}

module _ {A B : Type 0} (f : ℕ → A → Option B) (xs : List A) (d : A) where
  -- no member below k has a fault
  abbrev pub Passed : ℕ → Type 0
  Passed k = (q : ℕ) → q < k → f q (get_or xs q d) ≡ None

  pub passed_none : Passed 0
  passed_none = below_none (λ q. f q (get_or xs q d) ≡ None)

  pub passed_more : (k : ℕ) → Passed k → f k (get_or xs k d) ≡ None → Passed (k + 1)
  passed_more = below_more (λ q. f q (get_or xs q d) ≡ None)

  pub passed_end : (k : ℕ) → length xs ≤ k → Passed k → first_of f 0 xs ≡ None
  passed_end k l h = (first-none f xs d).1 (λ q u. h q (omega arith))

-- the same where the fault is a place
module _ {A : Type 0} (f : ℕ → A → Option ℕ) (xs : List A) (d : A) where
  pub passed_hit : (k p : ℕ) → k < length xs → Passed f xs d k → f k (get_or xs k d) ≡ Some p → Some p ≡ first_of f 0 xs
  passed_hit k p l h e = rw (first-at f xs d k p l h e)

  pub passed_all : (k : ℕ) → length xs ≤ k → Passed f xs d k → None ≡ first_of f 0 xs
  passed_all k l h = rw (passed_end f xs d k l h)

-- the same where the fault is a test, and the member's number tells the place
module _ {A : Type 0} (t : ℕ → A → Bool) (xs : List A) (d : A) where
  abbrev pub Clear : ℕ → Type 0
  Clear k = (q : ℕ) → q < k → t q (get_or xs q d) ≡ false

  pub clear_none : Clear 0
  clear_none = below_none (λ q. t q (get_or xs q d) ≡ false)

  pub clear_more : (k : ℕ) → Clear k → t k (get_or xs k d) ≡ false → Clear (k + 1)
  clear_more = below_more (λ q. t q (get_or xs q d) ≡ false)

  module _ (place : ℕ → ℕ) where
    fault : ℕ → A → Option ℕ
    fault k x = when (t k x) (place k)

    passed : (k : ℕ) → Clear k → Passed fault xs d k
    unfolding fault when
    passed k h q l = rw (h q l)

    pub clear_hit
        : (k p : ℕ) → k < length xs → Clear k → t k (get_or xs k d) ≡ true → p ≡ place k → Some p ≡ first_of (λ k x. when (t k x) (place k)) 0 xs
    unfolding fault when
    clear_hit k p l h e q = rw q (passed_hit fault xs d k (place k) l (passed k h) (rw e))

    pub clear_all : (k : ℕ) → length xs ≤ k → Clear k → None ≡ first_of (λ k x. when (t k x) (place k)) 0 xs
    unfolding fault
    clear_all k l h = passed_all fault xs d k l (passed k h)
