-- The pages in use, 1 to U, by number: what a walk over them says, said of page x.
use Rattle.std.proofs.Math.Logic.Dec
use Rattle.std.specs.Prelude.{ℕ, zero, suc, ◌<◌, ◌≤◌, ◌≡◌, ◌↔◌, Bool, false, length, get_or, drop, Option, None}
use Rattle.std.proofs.Common.{◌∙◌, arith, one-add, get_or-drop}
use Rattle.std.proofs.Math.Logic.{by_cases}
use Rattle.std.proofs.Math.Decide.{dec_le}
use Rattle.std.proofs.Math.ListN.{length-drop}
use Rattle.std.proofs.Math.Seq.{length-take-le, get_or-take}
use Rattle.spec.specs.Basics.{first_of, any_of}
use Rattle.spec.specs.File.{Page, File, zero_page, page_at, pages_in_use}
use Rattle.spec.specs.Proper.{PageNo, FileOk}
use Rattle.laws.specs.Codec.Walk.{first-none, first_from_1, any_none, any_from_1}

-- the pages behind place 0
pub page_behind : (f : File) (k : ℕ) → get_or (drop 1 f.table) k zero_page ≡ page_at f (suc k)
unfolding page_at
page_behind f k = get_or-drop 1 f.table k zero_page ∙ rw one-add

-- what every page is, if those in use are so and a page of zeros is
pub any_page : (f : File) (P : Page → Type 0) → FileOk f → P zero_page → ((x : ℕ) → PageNo f x → P (page_at f x)) → (x : ℕ) → P (page_at f x)
any_page f P ok zeroed used x = by_cases (Dec.and (dec_le 1 x) (dec_le x f.used)) (used x) (λ n. rw (ok.unused x n) zeroed)

module _ (f : File) (within : f.used ≤ f.limit) (size : length f.table ≡ suc f.limit) where
  pub length_in_use : length (pages_in_use f) ≡ f.used
  unfolding pages_in_use
  length_in_use = length-take-le f.used (drop 1 f.table) (rw length-drop (omega arith))

  pub in_use_at : (k : ℕ) → k < f.used → get_or (pages_in_use f) k zero_page ≡ page_at f (suc k)
  unfolding pages_in_use
  in_use_at k l = get_or-take f.used (drop 1 f.table) k zero_page l ∙ page_behind f k

  by_number
      : (P : ℕ → Page → Type 0)
      → ((k : ℕ) → k < length (pages_in_use f) → P (suc k) (get_or (pages_in_use f) k zero_page)) ↔ ((x : ℕ) → PageNo f x → P x (page_at f x))
  by_number P = (there, λ h k l. rw (in_use_at k (rw length_in_use at l)) (h (suc k) (omega (arith, length_in_use))))
    where
      there : ((k : ℕ) → k < length (pages_in_use f) → P (suc k) (get_or (pages_in_use f) k zero_page)) → (x : ℕ) → PageNo f x → P x (page_at f x)
      there h zero n = absurd (omega arith)
      there h (suc k) n = rw (in_use_at k (omega arith)) at (h k (omega (arith, length_in_use)))

  pub first_in_use
      : (t : ℕ → Page → Option ℕ) → first_of t 1 (pages_in_use f) ≡ None ↔ ((x : ℕ) → PageNo f x → t x (page_at f x) ≡ None)
  first_in_use t = rw first_from_1 (simp (first-none (λ x. t (suc x)) (pages_in_use f) zero_page) (by_number (λ x p. t x p ≡ None)))

  pub any_in_use : (t : ℕ → Page → Bool) → any_of t 1 (pages_in_use f) ≡ false ↔ ((x : ℕ) → PageNo f x → t x (page_at f x) ≡ false)
  any_in_use t = rw any_from_1 (simp (any_none (λ x. t (suc x)) (pages_in_use f) zero_page) (by_number (λ x p. t x p ≡ false)))
