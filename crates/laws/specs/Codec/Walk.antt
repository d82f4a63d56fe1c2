-- A walk over a list, member by member: what `first_of` and `any_of` say by places. The laws are about walks that count from 0, but for those about two
-- walks at once; one that counts from 1 is such a walk too (`first_from_1`, `any_from_1`).
use Prim.Native.Nat.{ℕ, zero, suc, ◌+◌, ◌<◌}
use Rattle.std.proofs.Math.Logic.Iff
use Rattle.std.specs.Prelude.{◌≡◌, ◌↔◌, Bool, false, ◌||◌, length, get_or, Option, None, Some}
use Rattle.std.proofs.Math.Path.{refl, ap}
use Rattle.std.proofs.Common.{sym, ◌∙◌, arith}
use mathlib.Core.List.{List, [], ◌∷◌, ◌++◌}
use Rattle.std.proofs.Math.Bool.{or-false, or_assoc}
use Rattle.std.proofs.lemmas.Option.{none-some}
use Rattle.std.proofs.Math.Nat.{add-zero, add-suc, suc-add}
use Rattle.spec.specs.Basics.{or_else, first_of, any_of, Each, end}
use Rattle.laws.specs.Tools.{first, rest}
use Rattle.laws.specs.Codec.Tools.{or_no, or_else_none, or_else_end, or_else_assoc, each-cons}

-- what comes second matters only where the first is not there
or_else_under : {A : Type 0} (o : Option A) {x y : Option A} → (o ≡ None → x ≡ y) → or_else o x ≡ or_else o y
unfolding or_else
or_else_under None h = h refl
or_else_under (Some p) h = refl

module _ {A : Type 0} where
  -- of a statement about the first member and one about the later, one about every place; and back
  by_places
      : (P : ℕ → A → Type 0) (x : A) (xs : List A) (d : A)
      → P 0 x × ((k : ℕ) → k < length xs → P (suc k) (get_or xs k d)) ↔ ((k : ℕ) → k < length (x ∷ xs) → P k (get_or (x ∷ xs) k d))
  by_places P x xs d = (there, λ h. (h zero (omega arith), λ k l. h (suc k) (omega arith)))
    where
      there : P 0 x × ((k : ℕ) → k < length xs → P (suc k) (get_or xs k d)) → (k : ℕ) → k < suc (length xs) → P k (get_or (x ∷ xs) k d)
      there h zero l = h.0
      there h (suc k) l = h.1 k (omega arith)

module _ {A B : Type 0} where
  first_next : (f : ℕ → A → Option B) (i : ℕ) (xs : List A) → first_of f (suc i) xs ≡ first_of (λ k. f (suc k)) i xs
  unfolding first_of
  first_next f i [] = refl
  first_next f i (x ∷ xs) = ap (or_else (f (suc i) x)) (first_next f (suc i) xs)

  pub first_from_1 : (f : ℕ → A → Option B) (xs : List A) → first_of f 1 xs ≡ first_of (λ k. f (suc k)) 0 xs
  first_from_1 f xs = first_next f 0 xs

  first_nil : (f : ℕ → A → Option B) → first_of f 0 [] ≡ None
  unfolding first_of
  first_nil f = refl

  first-cons : (f : ℕ → A → Option B) (x : A) (xs : List A) → first_of f 0 (x ∷ xs) ≡ or_else (f 0 x) (first_of (λ k. f (suc k)) 0 xs)
  unfolding first_of
  first-cons f x xs = ap (or_else (f 0 x)) (first_next f 0 xs)

  -- nothing is found exactly if no member gives anything
  pub first-none
      : (f : ℕ → A → Option B) (xs : List A) (d : A) → first_of f 0 xs ≡ None ↔ ((k : ℕ) → k < length xs → f k (get_or xs k d) ≡ None)
  first-none f [] d = (λ e k l. absurd (omega arith), λ h. first_nil f)
  first-none f (x ∷ xs) d = simp (first-cons, or_else_none, first-none (λ k. f (suc k)) xs d) (by_places (λ k y. f k y ≡ None) x xs d)

  -- the lowest place wins: what member k gives, where no earlier member gives anything
  pub first-at
      : (f : ℕ → A → Option B) (xs : List A) (d : A) (k : ℕ) (p : B)
      → k < length xs
      → ((q : ℕ) → q < k → f q (get_or xs q d) ≡ None)
      → f k (get_or xs k d) ≡ Some p
      → first_of f 0 xs ≡ Some p
  unfolding or_else
  first-at f [] d k p l before e = absurd (omega arith)
  first-at f (x ∷ xs) d zero p l before e = rw (first-cons, e)
  first-at f (x ∷ xs) d (suc k) p l before e =
      rw (first-cons, before zero (omega arith)) (first-at (λ q. f (suc q)) xs d k p (omega arith) (λ q u. before (suc q) (omega arith)) e)

  -- two walks find the same, if they agree on each member before which the first finds nothing
  pub first_agree
      : (f g : ℕ → A → Option B) (xs : List A) (d : A)
      → ((k : ℕ) → k < length xs → ((q : ℕ) → q < k → f q (get_or xs q d) ≡ None) → f k (get_or xs k d) ≡ g k (get_or xs k d))
      → first_of f 0 xs ≡ first_of g 0 xs
  first_agree f g [] d h = first_nil f ∙ sym (first_nil g)
  first_agree f g (x ∷ xs) d h =
      rw (first-cons f x xs, first-cons g x xs, sym (h zero (omega arith) (λ q l. absurd (omega arith))))
      (or_else_under (f 0 x) (λ e. first_agree (λ k. f (suc k)) (λ k. g (suc k)) xs d (λ k l before. h (suc k) (omega arith) (all e k before))))
    where
      all : f 0 x ≡ None → (k : ℕ) → ((q : ℕ) → q < k → f (suc q) (get_or xs q d) ≡ None) → (q : ℕ) → q < suc k → f q (get_or (x ∷ xs) q d) ≡ None
      all e k before zero l = e
      all e k before (suc q) l = before q (omega arith)

  -- one member more: it is asked last
  pub first_snoc
      : (f : ℕ → A → Option B) (i : ℕ) (xs : List A) (x : A) → first_of f i (xs ++ (x ∷ [])) ≡ or_else (first_of f i xs) (f (i + length xs) x)
  unfolding first_of or_else
  first_snoc f i [] x = rw add-zero (or_else_end (f i x))
  first_snoc f i (y ∷ xs) x = rw (first_snoc f (suc i) xs x, suc-add, add-suc i (length xs)) (or_else_assoc (f i y) _ _)

  -- nothing is found exactly if every member passes a test that does not ask for its number
  pub first_each : (f : ℕ → A → Option B) (P : A → Type 0) → ((k : ℕ) (x : A) → f k x ≡ None ↔ P x) → (xs : List A) → first_of f 0 xs ≡ None ↔ Each P xs
  first_each f P h [] = (λ e. end, λ h. first_nil f)
  first_each f P h (x ∷ xs) = simp (first-cons, or_else_none, h, first_each (λ k. f (suc k)) P (λ k. h (suc k)) xs, each-cons) Iff.rfl

-- two walks over one list that stop at the same member: what they tell of it, each, goes together as R says
module _ {A B C : Type 0} (f : ℕ → A → Option B) (g : ℕ → A → Option C) (same : (k : ℕ) (x : A) → f k x ≡ None ↔ g k x ≡ None) where
  pub first-same : (i : ℕ) (xs : List A) → first_of f i xs ≡ None ↔ first_of g i xs ≡ None
  unfolding first_of
  first-same i [] = (λ e. refl, λ e. refl)
  first-same i (x ∷ xs) = simp (or_else_none, same, first-same (suc i) xs) Iff.rfl

  module _ (P : A → Type 0) (R : B → C → Type 0) (told : (k : ℕ) (x : A) (u : B) (v : C) → P x → f k x ≡ Some u → g k x ≡ Some v → R u v) where
    pub first_both : (i : ℕ) (xs : List A) → Each P xs → (u : B) (v : C) → first_of f i xs ≡ Some u → first_of g i xs ≡ Some v → R u v
    unfolding first_of or_else
    first_both i [] h u v = λ d e. absurd (none-some _ d)
    first_both i (x ∷ xs) h u v = by (f i x) (g i x) refl refl (first_both (suc i) xs (rest h) u v)
      where
        by
            : (o : Option B) (p : Option C)
            → f i x ≡ o
            → g i x ≡ p
            → (first_of f (suc i) xs ≡ Some u → first_of g (suc i) xs ≡ Some v → R u v)
            → or_else o (first_of f (suc i) xs) ≡ Some u
            → or_else p (first_of g (suc i) xs) ≡ Some v
            → R u v
        by None None m n later d e = later d e
        by None (Some w) m n later d e = absurd (none-some _ (sym ((same i x).0 m) ∙ n))
        by (Some w) None m n later d e = absurd (none-some _ (sym ((same i x).1 n) ∙ m))
        by (Some w) (Some y) m n later d e = told i x u v (first h) (m ∙ d) (n ∙ e)

module _ {A : Type 0} where
  any_next : (f : ℕ → A → Bool) (i : ℕ) (xs : List A) → any_of f (suc i) xs ≡ any_of (λ k. f (suc k)) i xs
  unfolding any_of
  any_next f i [] = refl
  any_next f i (x ∷ xs) = ap (λ t. f (suc i) x || t) (any_next f (suc i) xs)

  pub any_from_1 : (f : ℕ → A → Bool) (xs : List A) → any_of f 1 xs ≡ any_of (λ k. f (suc k)) 0 xs
  any_from_1 f xs = any_next f 0 xs

  any_nil : (f : ℕ → A → Bool) → any_of f 0 [] ≡ false
  unfolding any_of
  any_nil f = refl

  any_cons : (f : ℕ → A → Bool) (x : A) (xs : List A) → any_of f 0 (x ∷ xs) ≡ (f 0 x || any_of (λ k. f (suc k)) 0 xs)
  unfolding any_of
  any_cons f x xs = ap (λ t. f 0 x || t) (any_next f 0 xs)

  -- the test holds of no member
  pub any_none
      : (f : ℕ → A → Bool) (xs : List A) (d : A) → any_of f 0 xs ≡ false ↔ ((k : ℕ) → k < length xs → f k (get_or xs k d) ≡ false)
  any_none f [] d = (λ e k l. absurd (omega arith), λ h. any_nil f)
  any_none f (x ∷ xs) d = simp (any_cons, or_no, any_none (λ k. f (suc k)) xs d) (by_places (λ k y. f k y ≡ false) x xs d)

  -- one member more
  pub any_snoc : (f : ℕ → A → Bool) (i : ℕ) (xs : List A) (x : A) → any_of f i (xs ++ (x ∷ [])) ≡ (any_of f i xs || f (i + length xs) x)
  unfolding any_of
  any_snoc f i [] x = rw add-zero (or-false (f i x))
  any_snoc f i (y ∷ xs) x = rw (any_snoc f (suc i) xs x, suc-add, add-suc i (length xs)) (sym (or_assoc (f i y) _ _))
