-- What is so of every fault that a row tells, is so of what a list of rows tells, and a walk; and so of a page, row by row.
use Rattle.std.specs.Prelude.{ℕ, suc, ◌≡◌, refl, Option, None, Some}
use Rattle.std.proofs.Math.Path.{subst}
use mathlib.Core.List.{List, [], ◌∷◌}
use Rattle.std.proofs.lemmas.Option.{none-some}
use Rattle.spec.specs.Basics.{or_else, first_of, Each, end, next}
use Rattle.spec.specs.Job.{Header, page_place}
use Rattle.spec.specs.Decode.{header_of}
use Rattle.spec.specs.Check.{Fault, numbered, TableRow, row, first_row, wrong_pattern, over_count, not_zero, not_cleared, page_fault, wrong_page}
use Rattle.laws.specs.Tools.{if_case, first, rest}

-- a fault that is told has the property P
abbrev pub Tells : (Fault → Type 0) → Option Fault → Type 0
Tells P o = (f : Fault) → o ≡ Some f → P f

module _ (P : Fault → Type 0) where
  tells_none : Tells P None
  tells_none f e = absurd (none-some _ e)

  pub tells_either : (x y : Option Fault) → Tells P x → Tells P y → Tells P (or_else x y)
  unfolding or_else
  tells_either None y h k = k
  tells_either (Some f) y h k = h

  pub tells_row : (n : ℕ) (x : Option ℕ) → ((p : ℕ) → x ≡ Some p → P (record { number = n; place = p })) → Tells P (numbered n x)
  unfolding numbered
  tells_row n None h = tells_none
  tells_row n (Some p) h = λ f e. let g : record { number = n; place = p } ≡ f = cc in subst P g (h p refl)

  pub tells_rows : (rs : List TableRow) (b : List ℕ) → Each (λ r. Tells P (r b)) rs → Tells P (first_row rs b)
  unfolding first_row
  tells_rows [] b h = tells_none
  tells_rows (r ∷ rs) b h = tells_either _ _ (first h) (tells_rows rs b (rest h))

  pub tells_walk : {A : Type 0} (f : ℕ → A → Option Fault) (i : ℕ) (xs : List A) → ((k : ℕ) (x : A) → Tells P (f k x)) → Tells P (first_of f i xs)
  unfolding first_of
  tells_walk f i [] h = tells_none
  tells_walk f i (x ∷ xs) h = tells_either _ _ (h i x) (tells_walk f (suc i) xs h)

  -- the rows of page x, which has the bytes p and begins at place a
  pub page_tells
      : (h : Header) (x : ℕ) (p : List ℕ)
      → let a = page_place h x in
      Tells P (row 12 (wrong_pattern h.g a) p) → Tells P (row 6 (over_count h.c a) p) → Tells P (row 13 (not_cleared a) p) → Tells P (row 13 (not_zero a) p) → Tells P (page_fault h x p)
  unfolding page_fault
  page_tells h x p r12 r6 r13 unused =
      tells_rows _ p (if_case (Each (λ (r : TableRow). Tells P (r p))) (λ e. next unused end) (λ e. next r12 (next r6 (next r13 end))))

  pub pages_tell : (b : List ℕ) → ((x : ℕ) (p : List ℕ) → Tells P (page_fault (header_of b) x p)) → Tells P (wrong_page b)
  unfolding wrong_page
  pages_tell b h = tells_walk _ 1 _ h

-- what the fault of a row of one number tells
pub numbered-some : (n : ℕ) (x : Option ℕ) (f : Fault) → numbered n x ≡ Some f → (f.number ≡ n) × (x ≡ Some f.place)
numbered-some n x f e = tells_row (λ g. (g.number ≡ n) × (x ≡ Some g.place)) n x (λ p z. (refl, z)) f e
