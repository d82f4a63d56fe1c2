-- What it says that a test does not hold, and the members of a list: facts about Bool, Option and List that the laws of the bytes share.
-- Each fact about a test is an `↔`, so that `simp failed` says what it means that a row of the refusal table does not hold, either way round.
use Rattle.std.proofs.Math.Logic.Iff
use Rattle.std.specs.Prelude.{ℕ, zero, suc, ◌<◌, ◌≤◌, ◌≡◌, refl, ◌↔◌, List, [], ◌∷◌, ◌++◌, map, Bool, true, false, not, ◌&&◌, ◌||◌, length, get_or, ltb, leb, eqb, Option, None, Some}
use Rattle.std.proofs.Common.{sym, true≢false, arith, ltb-true, ltb-false, leb-false, eqb-true, lt-ltb, le-ltb, eq-eqb, ne_eqb}
use Rattle.std.proofs.lemmas.Bool.{false≢true, eqb-false, not-true, not-false, lt-leb}
use Rattle.std.proofs.lemmas.Option.{none-some}
use Rattle.spec.specs.Basics.{when, or_else, among, Each, end, next}
use Rattle.spec.specs.Check.{outside, numbered, TableRow, first_row}
use Rattle.laws.specs.Tools.{first, rest, each_at}

-- tests
pub or_no : (a b : Bool) → (a || b) ≡ false ↔ (a ≡ false) × (b ≡ false)
or_no true b = (λ e. absurd (true≢false e), λ e. e.0)
or_no false b = (λ e. (refl, e), λ e. e.1)

pub and_no : (a b : Bool) → (a && b) ≡ false ↔ (a ≡ true → b ≡ false)
and_no true b = (λ e t. e, λ h. h refl)
and_no false b = (λ e t. absurd (false≢true t), λ h. refl)

-- the second holds only where the first does
pub only_no : (a b : Bool) → (not a && b) ≡ false ↔ (b ≡ true → a ≡ true)
only_no true b = (λ e t. refl, λ h. refl)
only_no false true = (λ e t. absurd (true≢false e), λ h. absurd (false≢true (h refl)))
only_no false false = (λ e t. absurd (false≢true t), λ h. refl)

pub not_no : (t : Bool) → not t ≡ false ↔ t ≡ true
not_no t = (not-false t, λ e. rw e)

pub not_yes : (t : Bool) → not t ≡ true ↔ t ≡ false
not_yes t = (not-true t, λ e. rw e)

pub ltb_no : (a b : ℕ) → ltb a b ≡ false ↔ b ≤ a
ltb_no a b = (ltb-false a b, le-ltb a b)

pub ltb_yes : (a b : ℕ) → ltb a b ≡ true ↔ a < b
ltb_yes a b = (ltb-true a b, lt-ltb a b)

pub leb_no : (a b : ℕ) → leb a b ≡ false ↔ b < a
leb_no a b = (leb-false a b, lt-leb a b)

pub eqb_yes : (a b : ℕ) → eqb a b ≡ true ↔ a ≡ b
eqb_yes a b = (eqb-true a b, eq-eqb a b)

pub eqb_no : (a b : ℕ) → eqb a b ≡ false ↔ (a ≡ b → ⊥)
eqb_no a b = (eqb-false a b, ne_eqb a b)

pub outside_no : (least most n : ℕ) → outside least most n ≡ false ↔ (least ≤ n) × (n ≤ most)
unfolding outside
outside_no least most n = simp (or_no, ltb_no) Iff.rfl

-- places that are not there
pub when-none : (t : Bool) (p : ℕ) → when t p ≡ None ↔ t ≡ false
unfolding when
when-none true p = (λ e. absurd (none-some _ (sym e)), λ e. absurd (true≢false e))
when-none false p = (λ e. refl, λ e. refl)

pub when-some : (t : Bool) (p q : ℕ) → when t p ≡ Some q → p ≡ q
unfolding when
when-some true p q e = cc
when-some false p q e = absurd (none-some _ e)

pub or_else_none : {A : Type 0} (x y : Option A) → or_else x y ≡ None ↔ (x ≡ None) × (y ≡ None)
unfolding or_else
or_else_none None y = (λ e. (refl, e), λ e. e.1)
or_else_none (Some a) y = (λ e. absurd (none-some _ (sym e)), λ e. e.0)

pub or_else_end : {A : Type 0} (x : Option A) → or_else x None ≡ x
unfolding or_else
or_else_end None = refl
or_else_end (Some a) = refl

pub or_else_assoc : {A : Type 0} (x y z : Option A) → or_else x (or_else y z) ≡ or_else (or_else x y) z
unfolding or_else
or_else_assoc None y z = refl
or_else_assoc (Some a) y z = refl

pub among_none : (x : Option ℕ) (xs : List (Option ℕ)) → among (x ∷ xs) ≡ None ↔ (x ≡ None) × (among xs ≡ None)
unfolding among
among_none x xs = or_else_none x (among xs)

pub among_end : among [] ≡ None ↔ Unit {0}
unfolding among
among_end = (λ e. tt, λ u. refl)

pub numbered-none : (n : ℕ) (x : Option ℕ) → numbered n x ≡ None ↔ x ≡ None
unfolding numbered
numbered-none n None = (λ e. refl, λ e. refl)
numbered-none n (Some p) = (λ e. absurd (none-some _ (sym e)), λ e. absurd (none-some _ (sym e)))

pub row-none : (r : TableRow) (rs : List TableRow) (b : List ℕ) → first_row (r ∷ rs) b ≡ None ↔ (r b ≡ None) × (first_row rs b ≡ None)
unfolding first_row
row-none r rs b = or_else_none (r b) (first_row rs b)

pub row_end : (b : List ℕ) → first_row [] b ≡ None ↔ Unit {0}
unfolding first_row
row_end b = (λ e. tt, λ u. refl)

-- a row among others
pub rows_split
    : (front : List TableRow) (r : TableRow) (back : List TableRow) (b : List ℕ)
    → first_row (front ++ r ∷ back) b ≡ or_else (first_row front b) (or_else (r b) (first_row back b))
unfolding first_row or_else
rows_split [] r back b = refl
rows_split (q ∷ front) r back b = rw (rows_split front r back b) (or_else_assoc (q b) _ _)

-- what it says that a test does not hold
pub ruleset failed = (or_no, and_no, not_no, not_yes, ltb_no, ltb_yes, leb_no, eqb_no, eqb_yes, outside_no, when-none)

-- lists
pub get_or_map : {A B : Type 0} (f : A → B) (l : List A) (k : ℕ) (d : A) (e : B) → k < length l → get_or (map f l) k e ≡ f (get_or l k d)
get_or_map f [] k d e u = absurd (omega arith)
get_or_map f (x ∷ l) zero d e u = refl
get_or_map f (x ∷ l) (suc k) d e u = get_or_map f l k d e (omega arith)

-- every member of a list
module _ {A : Type 0} where
  pub every : {P : A → Type 0} → ((x : A) → P x) → (l : List A) → Each P l
  every h [] = end
  every h (x ∷ l) = next (h x) (every h l)

  pub each-cons : {P : A → Type 0} (x : A) (l : List A) → Each P (x ∷ l) ↔ P x × Each P l
  each-cons x l = (λ h. (first h, rest h), λ h. next h.0 h.1)

  pub each_imp₂ : {P Q R : A → Type 0} {l : List A} → ((x : A) → P x → Q x → R x) → Each P l → Each Q l → Each R l
  each_imp₂ f end end = end
  each_imp₂ f (next h t) (next k u) = next (f _ h k) (each_imp₂ f t u)

  pub each_places : {P : A → Type 0} (l : List A) (d : A) → Each P l ↔ ((k : ℕ) → k < length l → P (get_or l k d))
  each_places {P} l d = (λ h k u. each_at l k d u h, from l)
    where
      from : (l : List A) → ((k : ℕ) → k < length l → P (get_or l k d)) → Each P l
      from [] h = end
      from (x ∷ l) h = next (h zero (omega arith)) (from l (λ k u. h (suc k) (omega arith)))

pub each_map : {A B : Type 0} {P : B → Type 0} (f : A → B) (l : List A) → Each P (map f l) ↔ Each (λ x. P (f x)) l
each_map {P = P} f [] = (λ e. end, λ e. end)
each_map {P = P} f (x ∷ l) = simp (each-cons, each_map {P = P} f l) Iff.rfl
