-- Row 7 by the entries at fault: those whose own page does not begin them, and, for each page, those that it begins and that name another.
use Rattle.std.specs.Prelude.{ℕ, ◌<◌, ◌≤◌, ◌≡◌, Bool, true, false, not, List, eqb, min, Option, None, Some}
use Rattle.spec.specs.File.{page_at, entry_at}
use Rattle.spec.specs.Decode.{file_of}
use Rattle.spec.specs.Check.{wrong_entry, wrong_page, owns, owns_too}
use Rattle.header.specs.declared.Header.{Header}
use Rattle.header.specs.Counts.{Heads}

-- what the rows before 7 leave
pub record Paged (h : Header) (b : List ℕ) : Type 0 where
  pub heads : Heads h b
  pub entries : wrong_entry b ≡ None
  pub pages : wrong_page b ≡ None

-- the page that entry j names does not begin j
unfoldable pub stray : List ℕ → ℕ → Bool
stray b j = not (owns (file_of b).g j (page_at (file_of b) (entry_at (file_of b) j)))

-- entry j names another page than x
unfoldable pub other : List ℕ → ℕ → ℕ → Bool
other b x j = not (eqb x (entry_at (file_of b) j))

-- and page x begins j
unfoldable pub foreign : List ℕ → ℕ → ℕ → Bool
foreign b x j = owns_too (file_of b).g j (entry_at (file_of b) j) x (page_at (file_of b) x)

-- no number from `from` on, below n, passes a test
abbrev pub NonePass : (ℕ → Bool) → ℕ → ℕ → Type 0
NonePass t from n = (q : ℕ) → from ≤ q → q < n → t q ≡ false

-- r is the lowest of them that passes it
pub record LowestAt (t : ℕ → Bool) (from n r : ℕ) : Type 0 where
  pub least : from ≤ r
  pub most : r < n
  pub before : NonePass t from r
  pub here : t r ≡ true

-- r is that number, if there is one
abbrev pub LowestOf : (ℕ → Bool) → ℕ → ℕ → Option ℕ → Type 0
LowestOf t from n None = NonePass t from n
LowestOf t from n (Some r) = LowestAt t from n r

-- the lower of two numbers, where there are two
unfoldable pub lower : Option ℕ → Option ℕ → Option ℕ
lower None b = b
lower (Some a) None = Some a
lower (Some a) (Some b) = Some (min a b)
