-- Facts on tests, on lists and on their members that several files use. Nothing of the charge file is here.
use Prim.Native.Nat.{ℕ, zero, suc, ◌<◌, ◌≤◌}
use Rattle.std.specs.Prelude.{◌≡◌, ◌⊎◌, Bool, ◌&&◌, get_or, set, replicate, Option, None, Some}
use Rattle.std.proofs.Math.Path.{refl, ap}
use Rattle.std.proofs.Common.{sym, ◌∙◌, inl, inr, ⊎_elim, true≢false}
use mathlib.Core.List.{List, [], ◌∷◌, ◌++◌}
use Rattle.std.proofs.Math.Bool.{true, false, and-eq-true_iff}
use Rattle.std.proofs.lemmas.Bool.{false≢true}
use Rattle.std.specs.Bool.{beq}
use native.Mathlib.Omega.{arith}
use Rattle.std.proofs.Math.ListN.{length}
use Rattle.spec.specs.Basics.{if, all_of, filter, Each, end, next, Has, here, there}

unfoldable pub is_some : {A : Type 0} → Option A → Bool
is_some None = false
is_some (Some x) = true

-- by cases on a test, with what the test says
pub if_case : {A : Type 0} (P : A → Type 0) {b : Bool} {x y : A} → (b ≡ true → P x) → (b ≡ false → P y) → P (if b x y)
unfolding if
if_case P {b = true} f g = f refl
if_case P {b = false} f g = g refl

pub if-true : {A : Type 0} {b : Bool} (x y : A) → b ≡ true → if b x y ≡ x
unfolding if
if-true {b = true} x y e = refl
if-true {b = false} x y e = absurd (false≢true e)

pub if-false : {A : Type 0} {b : Bool} (x y : A) → b ≡ false → if b x y ≡ y
unfolding if
if-false {b = true} x y e = absurd (true≢false e)
if-false {b = false} x y e = refl

-- one test decides two things together
pub if_both
    : {A B : Type 0} (P : A → B → Type 0) {b : Bool} {x y : A} {u v : B}
    → (b ≡ true → P x u)
    → (b ≡ false → P y v)
    → P (if b x y) (if b u v)
unfolding if
if_both P {b = true} p q = p refl
if_both P {b = false} p q = q refl

-- so what is done on both sides is done to what the test decides
pub if_ap : {A B : Type 0} (f : A → B) (b : Bool) (x y : A) → if b (f x) (f y) ≡ f (if b x y)
if_ap f b x y = if_both (λ u v. u ≡ f v) (λ e. refl) (λ e. refl)

pub and_left : (a b : Bool) → (a && b) ≡ true → a ≡ true
and_left a b e = ((and-eq-true_iff a b).0 e).0

pub and_right : (a b : Bool) → (a && b) ≡ true → b ≡ true
and_right a b e = ((and-eq-true_iff a b).0 e).1

pub beq_refl : (b : Bool) → beq b b ≡ true
beq_refl true = refl
beq_refl false = refl

pub beq-true : (a b : Bool) → beq a b ≡ true → a ≡ b
beq-true true true e = refl
beq-true true false e = sym e
beq-true false true e = e
beq-true false false e = refl

-- two tests that hold together are one
pub bool_same : (a b : Bool) → (a ≡ true → b ≡ true) → (b ≡ true → a ≡ true) → a ≡ b
bool_same true true f g = refl
bool_same true false f g = sym (f refl)
bool_same false true f g = g refl
bool_same false false f g = refl

module _ {A : Type 0} where
  -- every member of a list
  pub first : {P : A → Type 0} {x : A} {xs : List A} → Each P (x ∷ xs) → P x
  first (next h t) = h

  pub rest : {P : A → Type 0} {x : A} {xs : List A} → Each P (x ∷ xs) → Each P xs
  rest (next h t) = t

  pub each_imp : {P Q : A → Type 0} {xs : List A} → ((x : A) → P x → Q x) → Each P xs → Each Q xs
  each_imp f end = end
  each_imp f (next {x} h t) = next (f x h) (each_imp f t)

  pub each_append : {P : A → Type 0} (xs ys : List A) → Each P xs → Each P ys → Each P (xs ++ ys)
  each_append [] ys h k = k
  each_append (x ∷ xs) ys h k = next (first h) (each_append xs ys (rest h) k)

  pub each_at : {P : A → Type 0} (xs : List A) (m : ℕ) (d : A) → m < length xs → Each P xs → P (get_or xs m d)
  each_at [] m d l h = absurd (omega arith)
  each_at (x ∷ xs) zero d l h = first h
  each_at (x ∷ xs) (suc m) d l h = each_at xs m d (omega arith) (rest h)

  -- and what is read where there is none
  pub each_or : {P : A → Type 0} (xs : List A) (m : ℕ) (d : A) → P d → Each P xs → P (get_or xs m d)
  each_or [] m d p h = p
  each_or (x ∷ xs) zero d p h = first h
  each_or (x ∷ xs) (suc m) d p h = each_or xs m d p (rest h)

  -- a member of a list
  pub has_left : {x : A} {xs : List A} (ys : List A) → Has x xs → Has x (xs ++ ys)
  has_left ys here = here
  has_left ys (there h) = there (has_left ys h)

  pub has_right : {x : A} (xs : List A) {ys : List A} → Has x ys → Has x (xs ++ ys)
  has_right [] h = h
  has_right (y ∷ xs) h = there (has_right xs h)

  pub has_append : {x : A} (xs ys : List A) → Has x (xs ++ ys) → Has x xs ⊎ Has x ys
  has_append [] ys h = inr h
  has_append (y ∷ xs) ys here = inl here
  has_append (y ∷ xs) ys (there h) = ⊎_elim (λ i. inl (there i)) inr (has_append xs ys h)

  pub has_one : {x y : A} → Has x (y ∷ []) → x ≡ y
  has_one here = refl
  has_one {y = y} (there h) = elim h [ ]

  pub has_first : (xs : List A) (d : A) → 1 ≤ length xs → Has (get_or xs 0 d) xs
  has_first [] d l = absurd (omega arith)
  has_first (x ∷ xs) d l = here

  pub has_at : (l : List A) (m : ℕ) (d : A) → m < length l → Has (get_or l m d) l
  has_at [] m d u = absurd (omega arith)
  has_at (x ∷ l) zero d u = here
  has_at (x ∷ l) (suc m) d u = there (has_at l m d (omega arith))

  -- a place is within the list, if what is read there is not so where there is none
  pub within : (P : A → Type 0) (l : List A) (i : ℕ) (d : A) → (P d → ⊥) → P (get_or l i d) → i < length l
  within P [] i d n h = absurd (n h)
  within P (x ∷ l) zero d n h = omega arith
  within P (x ∷ l) (suc i) d n h = let k = within P l i d n h in omega arith

  -- every member, after one is set; every member of a list of one value
  pub set_all : (P : A → Type 0) (l : List A) (x : ℕ) (v d : A) → P v → ((y : ℕ) → P (get_or l y d)) → (y : ℕ) → P (get_or (set l x v) y d)
  set_all P [] x v d p h y = h y
  set_all P (a ∷ l) zero v d p h zero = p
  set_all P (a ∷ l) zero v d p h (suc y) = h (suc y)
  set_all P (a ∷ l) (suc x) v d p h zero = h zero
  set_all P (a ∷ l) (suc x) v d p h (suc y) = set_all P l x v d p (λ z. h (suc z)) y

  pub replicate_all : (P : A → Type 0) (n : ℕ) (v d : A) → P v → P d → (i : ℕ) → P (get_or (replicate n v) i d)
  replicate_all P zero v d p q i = q
  replicate_all P (suc n) v d p q zero = p
  replicate_all P (suc n) v d p q (suc i) = replicate_all P n v d p q i

  -- the members that pass a test
  pub filter_each : {P Q : A → Type 0} (f : A → Bool) (xs : List A) → ((x : A) → P x → f x ≡ true → Q x) → Each P xs → Each Q (filter f xs)
  unfolding filter
  filter_each f [] w h = end
  filter_each f (x ∷ xs) w h =
      if_case (Each _) (λ e. next (w x (first h) e) (filter_each f xs w (rest h))) (λ e. filter_each f xs w (rest h))

  pub filter-le : (f : A → Bool) (xs : List A) → length (filter f xs) ≤ length xs
  unfolding filter
  filter-le f [] = omega arith
  filter-le f (x ∷ xs) =
      let h = filter-le f xs in
      if_case (λ (w : List A). length w ≤ suc (length xs)) (λ e. omega arith) (λ e. omega arith)

  pub filter_all : (f : A → Bool) (xs : List A) → Each (λ x. f x ≡ true) xs → filter f xs ≡ xs
  unfolding filter
  filter_all f [] h = refl
  filter_all f (x ∷ xs) h = if-true _ _ (first h) ∙ ap (λ w. x ∷ w) (filter_all f xs (rest h))

  pub filter-few : (f : A → Bool) (xs : List A) → (Each (λ x. f x ≡ true) xs → ⊥) → length (filter f xs) < length xs
  unfolding filter
  filter-few f [] h = absurd (h end)
  filter-few f (x ∷ xs) h =
      let le = filter-le f xs in
      if_case (λ (w : List A). length w < suc (length xs))
      (λ e. let k = filter-few f xs (λ t. h (next e t)) in omega arith)
      (λ e. omega arith)

  -- a test of every member
  pub all_of_true : (f : A → Bool) (xs : List A) → all_of f xs ≡ true → Each (λ x. f x ≡ true) xs
  unfolding all_of
  all_of_true f [] h = end
  all_of_true f (x ∷ xs) h = next (and_left (f x) _ h) (all_of_true f xs (and_right (f x) _ h))

  pub true_all_of : (f : A → Bool) (xs : List A) → Each (λ x. f x ≡ true) xs → all_of f xs ≡ true
  unfolding all_of
  true_all_of f [] h = refl
  true_all_of f (x ∷ xs) h = rw (first h) (true_all_of f xs (rest h))

  -- a member that fails it
  pub all_of_false : (f : A → Bool) (xs : List A) (d : A) → all_of f xs ≡ false → (i : ℕ) × (f (get_or xs i d) ≡ false)
  unfolding all_of
  all_of_false f [] d h = absurd (true≢false h)
  all_of_false f (x ∷ xs) d h = by (f x) refl (λ z. all_of_false f xs d (rw z at h))
    where
      by : (b : Bool) → f x ≡ b → (f x ≡ true → (i : ℕ) × (f (get_or xs i d) ≡ false)) → (i : ℕ) × (f (get_or (x ∷ xs) i d) ≡ false)
      by true z k = let w = k z in (suc w.0, w.1)
      by false z k = (0, z)
