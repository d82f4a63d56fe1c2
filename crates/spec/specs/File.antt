-- "The file": pages, directory, and what the file holds.
use Rattle.std.specs.Prelude.{ℕ, zero, suc, ◌^◌, List, [], ◌∷◌, ◌++◌, Bool, not, get_or, take, drop, ltb, eqb, Option, None, Some, option_map}
use Rattle.spec.specs.declared.Rec.{Rec}
use Rattle.spec.specs.declared.Found.{Found}
use Rattle.spec.specs.Basics.{if, filter}
use Rattle.spec.specs.Key.{index}

-- "A page has a local depth l of at most g and a pattern of l bits. At most c records lie in it"; "by rising call number"
pub record Page : Type 0 where
  pub depth : ℕ
  pub pattern : ℕ
  pub records : List Rec

-- The file: global depth g, capacity c, page count P (`limit`), pages in use U (`used`), directory, page table.
-- "Pages count from 1": page x stands at place x of the table, and place 0 is not used.
pub record File : Type 0 where
  pub g : ℕ
  pub c : ℕ
  pub limit : ℕ
  pub used : ℕ
  pub directory : List ℕ
  pub table : List Page

-- a page not in use, which is zero
abbrev pub zero_page : Page
zero_page = record { depth = 0; pattern = 0; records = [] }

-- what is read where there is no record
abbrev pub no_record : Rec
no_record = record { call = 0; charge = 0 }

-- page x, and the page number that entry j names
unfoldable pub page_at : File → ℕ → Page
page_at f x = get_or f.table x zero_page

unfoldable pub entry_at : File → ℕ → ℕ
entry_at f j = get_or f.directory j 0

-- the pages in use, 1 to U
unfoldable pub pages_in_use : File → List Page
pages_in_use f = take f.used (drop 1 f.table)

-- the record of a call, among some records
unfoldable pub find_in : List Rec → ℕ → Option Rec
find_in [] k = None
find_in (r ∷ rs) k = if (eqb r.call k) (Some r) (find_in rs k)

-- the same for records that stand by rising call number: "may then stop at the first higher number, and finds what it found before"
unfoldable pub look_in : List Rec → ℕ → Option Rec
look_in [] k = None
look_in (r ∷ rs) k = if (ltb k r.call) None (if (eqb r.call k) (Some r) (look_in rs k))

-- "Looking into a page must .. report which page it was to every caller": page x, with the charge of the call's record there, or without
abbrev pub found_of : ℕ → Option Rec → Found
found_of x o = record { page = x; charge = option_map (λ r. r.charge) o }

-- page x is looked into for a call, among all its records
abbrev pub look_into : File → ℕ → ℕ → Found
look_into f x k = found_of x (find_in (page_at f x).records k)

-- the records with one more, which goes before the first with a higher number
unfoldable pub put_in : List Rec → Rec → List Rec
put_in [] r = r ∷ []
put_in (a ∷ rs) r = if (ltb r.call a.call) (r ∷ a ∷ rs) (a ∷ put_in rs r)

-- the records without those of a call
unfoldable pub is_not : ℕ → Rec → Bool
is_not k r = not (eqb r.call k)

unfoldable pub without : List Rec → ℕ → List Rec
without rs k = filter (is_not k) rs

-- the records with index j, among some
unfoldable pub has_index : ℕ → ℕ → Rec → Bool
has_index g j r = eqb (index g r.call) j

unfoldable pub of_index : ℕ → ℕ → List Rec → List Rec
of_index g j rs = filter (has_index g j) rs

-- the records with index j in the page that entry j names, for the next n entries from j on
unfoldable pub held_from : ℕ → File → ℕ → List Rec
held_from zero f j = []
held_from (suc n) f j = of_index f.g j (page_at f (entry_at f j)).records ++ held_from n f (suc j)

-- "What the file holds, at any moment: for each j, the records with index j in the page that entry j names"
unfoldable pub contents : File → List Rec
contents f = held_from (2 ^ f.g) f 0
