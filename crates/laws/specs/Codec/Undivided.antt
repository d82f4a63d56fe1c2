-- Document 01's table has one row for all faults of a page, told at the page; document 02 divides it into 12, 6 and 13. Between the two: no fault is
-- added or lost, the faults that other rows tell stay as they are, and where the one row tells a page, one of the three tells a place in that page.
use Rattle.std.proofs.Math.Logic.Iff
use Rattle.std.specs.Prelude.{ℕ, ◌+◌, ◌*◌, ◌^◌, ◌<◌, ◌≤◌, ◌≡◌, refl, ◌↔◌, List, [], ◌∷◌, ◌++◌, Bool, true, false, not, ◌&&◌, ◌||◌, ltb, leb, length, take, drop, Option, None, Some}
use Rattle.std.proofs.Common.{sym, ◌∙◌, inl, inr, arith, length-drop}
use Rattle.std.proofs.lemmas.Option.{none-some}
use Rattle.spec.specs.Basics.{when, or_else, among, first_of}
use Rattle.spec.specs.Bytes.{byte, word}
use Rattle.spec.specs.Job.{Header, record_size, page_size, page_place}
use Rattle.spec.specs.Decode.{header_of, page_parts}
use Rattle.spec.specs.Check.{Fault, TableRow, row, first_row, wrong_pattern, over_count, not_cleared, page_fault, wrong_page, rows, job_fault}
use Rattle.laws.specs.Codec.Tools.{failed, when-some, or_else_none, numbered-none, rows_split}
use Rattle.laws.specs.Codec.Walk.{first-same, first_both}
use Rattle.laws.specs.Codec.Zeros.{zeros, not-zero_said}
use Rattle.laws.specs.Codec.Parts.{parts-short}
use Rattle.laws.specs.Codec.Told.{Tells, tells_row, page_tells, numbered-some}
use Rattle.laws.specs.Codec.Numbered.{OfPage, pages-number, front_number, back_number}
use Rattle.laws.specs.Codec.Pages.{PageFine, page-fine}

-- document 01, 6 page: "l above g, pattern 2^l or more, count above c, or an unused record or unused page not zero". Page x has the bytes p
unfoldable pub bad_page : Header → ℕ → List ℕ → Bool
bad_page h x p =
    ltb h.g (byte p 0)
    || leb (2 ^ byte p 0) (word p 2)
    || ltb h.c (byte p 1)
    || not (zeros (drop (4 + record_size * byte p 1) p))
    || (ltb h.used x && not (zeros p))

abbrev pub bad_place : Header → ℕ → List ℕ → Option ℕ
bad_place h x p = when (bad_page h x p) (page_place h x)

unfoldable pub undivided : List ℕ → Option ℕ
undivided b = let h = header_of b in first_of (bad_place h) 1 (page_parts h b)

-- ---- NO FAULT IS ADDED OR LOST

bad_fine : (h : Header) (x : ℕ) (p : List ℕ) → bad_page h x p ≡ false ↔ PageFine h x p
unfolding bad_page
bad_fine h x p = simp failed (λ e. search, λ r. search)

page_same : (h : Header) (x : ℕ) (p : List ℕ) → bad_place h x p ≡ None ↔ page_fault h x p ≡ None
page_same h x p = simp (failed, bad_fine, page-fine) Iff.rfl

pub pages_same : (b : List ℕ) → row 6 undivided b ≡ None ↔ wrong_page b ≡ None
unfolding undivided wrong_page
pages_same b = simp numbered-none (first-same _ _ (page_same (header_of b)) 1 (page_parts (header_of b) b))

-- the table with document 01's row 6
abbrev pub one_row : List TableRow
one_row = take 5 rows ++ row 6 undivided ∷ drop 6 rows

-- what is told: by the rows before, by the one row or by the three, by the rows behind
module _ (b : List ℕ) where
  abbrev front : Option Fault
  front = first_row (take 5 rows) b

  abbrev back : Option Fault
  back = first_row (drop 6 rows) b

  one : first_row one_row b ≡ or_else front (or_else (row 6 undivided b) back)
  one = rows_split (take 5 rows) (row 6 undivided) (drop 6 rows) b

  three : job_fault b ≡ or_else front (or_else (wrong_page b) back)
  unfolding job_fault
  three = rows_split (take 5 rows) wrong_page (drop 6 rows) b

pub accepted_same : (b : List ℕ) → first_row one_row b ≡ None ↔ job_fault b ≡ None
accepted_same b = rw (one b, three b) (simp (or_else_none, pages_same b) Iff.rfl)

-- ---- THE OTHER ROWS STAY

-- with p in the place of o, a fault that o does not tell stays
kept : (x o p z : Option Fault) (f : Fault) → o ≡ None ↔ p ≡ None → (o ≡ Some f → ⊥) → or_else x (or_else o z) ≡ Some f → or_else x (or_else p z) ≡ Some f
unfolding or_else
kept (Some g) o p z f same n e = e
kept None None None z f same n e = e
kept None None (Some g) z f same n e = absurd (none-some _ (sym (same.0 refl)))
kept None (Some g) p z f same n e = absurd (n e)

-- a fault of another row has the number and the place that it has
pub others_same : (b : List ℕ) (f : Fault) → (OfPage f → ⊥) → first_row one_row b ≡ Some f ↔ job_fault b ≡ Some f
others_same b f other =
    let same = pages_same b in
    rw (one b, three b)
    (kept (front b) _ _ (back b) f same (λ e. other (inr (inl (numbered-some 6 _ f e).0))), kept (front b) _ _ (back b) f (same.1, same.0) (λ e. other (pages-number b f e)))

-- ---- THE PLACE LIES IN THE PAGE

-- among the n bytes from place a on
abbrev pub Within : ℕ → ℕ → ℕ → Type 0
Within a n p = (a ≤ p) × (p < a + n)

pattern-within : (s t : Bool) (a p : ℕ) → among (when s a ∷ when t (a + 2) ∷ []) ≡ Some p → Within a 4 p
unfolding among when or_else
pattern-within true t a p e = let z : a ≡ p = cc in (omega arith, omega arith)
pattern-within false true a p e = let z : a + 2 ≡ p = cc in (omega arith, omega arith)
pattern-within false false a p e = absurd (none-some _ e)

page-within : (h : Header) (x : ℕ) (p : List ℕ) → length p ≤ page_size h.c → Tells (λ f. Within (page_place h x) (page_size h.c) f.place) (page_fault h x p)
unfolding wrong_pattern over_count not_cleared
page-within h x p l =
    let In : Fault → Type 0 = λ f. Within (page_place h x) (page_size h.c) f.place in
    page_tells In h x p (tells_row In 12 _ (λ q z. let w = pattern-within _ _ _ q z in (omega arith, omega arith)))
    (tells_row In 6 _ (λ q z. let w = when-some _ _ q z in (omega arith, omega arith)))
    (tells_row In 13 _ (λ q z. let w = (not-zero_said _ _ q).0 z in let m = length-drop (4 + record_size * byte p 1) p in (omega (arith, w.from), omega (arith, w.within))))
    (tells_row In 13 _ (λ q z. let w = (not-zero_said _ p q).0 z in (w.from, omega (arith, w.within))))

-- where the one row tells page x, the three tell a place in page x
pub place-within : (b : List ℕ) (a : ℕ) (f : Fault) → undivided b ≡ Some a → wrong_page b ≡ Some f → Within a (page_size (header_of b).c) f.place
unfolding undivided wrong_page page_parts
place-within b a f =
    let h = header_of b in
    first_both (bad_place h) (page_fault h) (page_same h) (λ p. length p ≤ page_size h.c) (λ a f. Within a (page_size h.c) f.place)
    (λ x p a f l e t. rw (← when-some (bad_page h x p) (page_place h x) a e) (page-within h x p l f t)) 1 (page_parts h b) (parts-short _ _ _) a f

-- with p in the place of o, a fault that only o tells gives way to one that p tells
instead : (x o p z : Option Fault) (f : Fault) → o ≡ None ↔ p ≡ None → (x ≡ Some f → ⊥) → (z ≡ Some f → ⊥) → or_else x (or_else o z) ≡ Some f → (o ≡ Some f) × (g : Fault) × (p ≡ Some g) × (or_else x (or_else p z) ≡ Some g)
unfolding or_else
instead (Some g) o p z f same n m e = absurd (n e)
instead None None p z f same n m e = absurd (m e)
instead None (Some g) None z f same n m e = absurd (none-some _ (sym (same.1 refl)))
instead None (Some g) (Some h) z f same n m e = (e, h, refl, refl)

-- AND OF THE JOB: where document 01's table tells the page at place a, 12, 6 or 13 is told, at a place in that page
pub page-told
    : (b : List ℕ) (a : ℕ)
    → first_row one_row b ≡ Some (record { number = 6; place = a })
    → (f : Fault) × (job_fault b ≡ Some f) × OfPage f × Within a (page_size (header_of b).c) f.place
page-told b a e =
    let six : Fault = record { number = 6; place = a } in
    let w = instead (front b) (row 6 undivided b) (wrong_page b) (back b) six (pages_same b) (λ h. (front_number b six h).other refl) (λ h. (back_number b six h).other refl) (sym (one b) ∙ e) in
    (w.1, three b ∙ w.3, pages-number b w.1 w.2, place-within b a w.1 (numbered-some 6 _ six w.0).1 w.2)
