-- The numbers of the refusal table: a page's faults have 12, 6 or 13, those of the other rows have not 6. And no fault has the number 0: where the
-- number told is 0, no row holds.
use Rattle.std.specs.Prelude.{ℕ, ◌≡◌, refl, ◌⊎◌, List, false, eqb, take, drop, Option}
use Rattle.std.proofs.Common.{inl, inr, arith}
use Rattle.spec.specs.Basics.{end, next}
use Rattle.spec.specs.Job.{Header}
use Rattle.spec.specs.Decode.{header_of}
use Rattle.spec.specs.Check.{Lent, Fault, numbered, first_row, page_fault, wrong_page, small_output, rows, job_fault, first_fault}
use Rattle.laws.specs.Codec.Tools.{eqb_no, rows_split}
use Rattle.laws.specs.Codec.Told.{Tells, tells_either, tells_row, tells_rows, page_tells, pages_tell}

-- of a page
abbrev pub OfPage : Fault → Type 0
OfPage f = (f.number ≡ 12) ⊎ (f.number ≡ 6) ⊎ (f.number ≡ 13)

page-number : (h : Header) (x : ℕ) (p : List ℕ) → Tells OfPage (page_fault h x p)
page-number h x p =
    page_tells OfPage h x p (tells_row OfPage 12 _ (λ q e. inl refl)) (tells_row OfPage 6 _ (λ q e. inr (inl refl))) (thirteen _) (thirteen _)
  where
    thirteen : (o : Option ℕ) → Tells OfPage (numbered 13 o)
    thirteen o = tells_row OfPage 13 o (λ q e. inr (inr refl))

pub pages-number : (b : List ℕ) → Tells OfPage (wrong_page b)
pages-number b = pages_tell OfPage b (page-number (header_of b))

-- of the other rows
pub record Plain (f : Fault) : Type 0 where
  pub above : f.number ≡ 0 → ⊥
  pub other : f.number ≡ 6 → ⊥

plain : (n : ℕ) (x : Option ℕ) → eqb n 0 ≡ false → eqb n 6 ≡ false → Tells Plain (numbered n x)
plain n x l m = tells_row Plain n x (λ p e. record { above = (eqb_no n 0).0 l; other = (eqb_no n 6).0 m })

pub front_number : (b : List ℕ) → Tells Plain (first_row (take 5 rows) b)
front_number b =
    tells_rows Plain (take 5 rows) b
    (next (plain _ _ refl refl)
    (next (plain _ _ refl refl) (next (plain _ _ refl refl) (next (plain _ _ refl refl) (next (plain _ _ refl refl) end)))))

pub back_number : (b : List ℕ) → Tells Plain (first_row (drop 6 rows) b)
back_number b =
    tells_rows Plain (drop 6 rows) b
    (next (plain _ _ refl refl) (next (plain _ _ refl refl) (next (plain _ _ refl refl) (next (plain _ _ refl refl) end))))

-- NO NUMBER IS 0
abbrev pub Above0 : Fault → Type 0
Above0 f = f.number ≡ 0 → ⊥

abbrev pub Numbered : Option Fault → Type 0
Numbered o = Tells Above0 o

pub above0 : (n : ℕ) (x : Option ℕ) → eqb n 0 ≡ false → Numbered (numbered n x)
above0 n x l = tells_row Above0 n x (λ p e. (eqb_no n 0).0 l)

pub job-numbered : (b : List ℕ) → Numbered (job_fault b)
unfolding job_fault
job-numbered b =
    rw (rows_split (take 5 rows) wrong_page (drop 6 rows) b)
    (tells_either Above0 _ _ (λ f e. (front_number b f e).above)
    (tells_either Above0 _ _ (λ f e. of-page f (pages-number b f e)) (λ f e. (back_number b f e).above)))
  where
    of-page : (f : Fault) → OfPage f → Above0 f
    of-page f (inl h) z = omega arith
    of-page f (inr (inl h)) z = omega arith
    of-page f (inr (inr h)) z = omega arith

pub first_numbered : (l : Lent) (b : List ℕ) → Numbered (first_fault l b)
unfolding first_fault
first_numbered l b = tells_either Above0 (job_fault b) _ (job-numbered b) (tells_row Above0 11 (small_output l b) (λ p e z. omega arith))
