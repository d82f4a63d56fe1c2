-- What the file of an accepted job is: rows 3, 5, 12, 6, 13, 7 and 8 of the refusal table, as properties of the file.
use Rattle.std.specs.Prelude.{ℕ, suc, ◌^◌, ◌<◌, ◌≤◌, ◌≡◌, List, [], ◌∷◌, true, length, get_or}
use Rattle.spec.specs.declared.Rec.{Rec}
use Rattle.spec.specs.Basics.{Each}
use Rattle.spec.specs.Key.{index, begins}
use Rattle.spec.specs.File.{Page, File, zero_page, page_at, entry_at}
use Rattle.spec.specs.Job.{max_depth, min_capacity, max_capacity, max_pages}

-- calls rise in a list: each is below those of the records behind it
pub data CallsRise : List Rec → Type 0 where
  flat : CallsRise []
  rise : {r : Rec} {rs : List Rec} → Each (λ a. r.call < a.call) rs → CallsRise rs → CallsRise (r ∷ rs)

-- the call's pseudo key begins with the page's pattern
abbrev pub In : Page → ℕ → Type 0
In q k = index q.depth k ≡ q.pattern

-- x is the number of a page in use
abbrev pub PageNo : File → ℕ → Type 0
PageNo f x = (0 < x) × (x ≤ f.used)

-- rows 3 and 5: the limits, and each entry the number of a page in use
pub record Fit (f : File) : Type 0 where
  pub depth : f.g ≤ max_depth
  pub capacity : (min_capacity ≤ f.c) × (f.c ≤ max_capacity)
  pub most : f.limit ≤ max_pages
  pub least : 1 ≤ f.used
  pub within : f.used ≤ f.limit
  pub size : length f.directory ≡ 2 ^ f.g
  pub pages : length f.table ≡ suc f.limit
  pub entries : (j : ℕ) → j < 2 ^ f.g → PageNo f (get_or f.directory j 0)

-- rows 12, 6 and 8, of a page in use
pub record PageOk (g c : ℕ) (q : Page) : Type 0 where
  pub deep : q.depth ≤ g
  pub small : q.pattern < 2 ^ q.depth
  pub room : length q.records ≤ c
  pub homed : Each (λ a. In q a.call) q.records
  pub calls_rise : CallsRise q.records

pub record FileOk (f : File) : Type 0 where
  pub fit : Fit f
  pub pages : (x : ℕ) → PageNo f x → PageOk f.g f.c (page_at f x)
  -- row 7: for entry e, its page's pattern begins e, and no other page's in use does
  pub names : (e : ℕ) → e < 2 ^ f.g → begins f.g (page_at f (entry_at f e)).depth (page_at f (entry_at f e)).pattern e ≡ true
  pub owner : (e x : ℕ) → e < 2 ^ f.g → PageNo f x → begins f.g (page_at f x).depth (page_at f x).pattern e ≡ true → entry_at f e ≡ x
  -- row 13: a page that is not in use is zero
  pub unused : (x : ℕ) → (PageNo f x → ⊥) → page_at f x ≡ zero_page
