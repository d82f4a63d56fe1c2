-- Tidying as the code goes about it, along the directory's entries: how many records lie under each pattern, the depths of the pages left, the
-- records of each, and the new directory. Each walk has two laws: its end, and one step.
use Rattle.std.specs.Prelude.{ℕ, zero, suc, ◌+◌, ◌-◌, ◌*◌, ◌/◌, ◌^◌, List, [], ◌∷◌, ◌++◌, length, replicate, eqb, ltb, leb}
use Rattle.spec.specs.declared.Rec.{Rec}
use Rattle.spec.specs.Basics.{if}
use Rattle.spec.specs.File.{Page, File, page_at, entry_at}
use Rattle.spec.specs.Tidy.{first_entry, merged}

-- the page that entry j names
unfoldable pub page_on : File → ℕ → Page
page_on f j = page_at f (entry_at f j)

-- how many records lie in the page whose first entry is j; none, where j is no page's first
unfoldable pub records_at : File → ℕ → ℕ
records_at f j = if (eqb (first_entry f.g (page_on f j)) j) (length (page_on f j).records) 0

-- and in the pages whose first entries are before j
unfoldable pub records_before : File → ℕ → ℕ
records_before f zero = 0
records_before f (suc j) = records_before f j + records_at f j

-- and under the pattern of l bits that begins entry j
unfoldable pub records_under : File → ℕ → ℕ → ℕ
records_under f l j =
    let n = 2 ^ (f.g - l) in
    records_before f (j / n * n + n) - records_before f (j / n * n)

-- the least number of bits, from l on, that leaves at most c records under the pattern of entry j; with n for fuel
unfoldable pub depth_from : ℕ → File → ℕ → ℕ → ℕ
depth_from zero f j l = l
depth_from (suc n) f j l = if (leb (records_under f l j) f.c) l (depth_from n f j (suc l))

-- the depth of the page left of which entry j is
unfoldable pub depth_on : File → ℕ → ℕ
depth_on f j = depth_from f.g f j 0

-- the depths of the pages left whose entries are from j on
unfoldable pub depths_from : ℕ → File → ℕ → List ℕ
depths_from zero f j = []
depths_from (suc n) f j = if (ltb j (2 ^ f.g)) (depth_on f j ∷ depths_from n f (j + 2 ^ (f.g - depth_on f j))) []

unfoldable pub depths_left : File → ℕ → List ℕ
depths_left f j = depths_from (2 ^ f.g - j) f j

-- the records of the pages from entry j up to entry e
unfoldable pub records_from : ℕ → File → ℕ → ℕ → List Rec
records_from zero f j e = []
records_from (suc n) f j e = if (ltb j e) ((page_on f j).records ++ records_from n f (j + 2 ^ (f.g - (page_on f j).depth)) e) []

unfoldable pub gathered : File → ℕ → ℕ → List Rec
gathered f j e = records_from (e - j) f j e

-- the page of depth l whose first entry is j, with all records of its entries' pages, by rising call
unfoldable pub page_from : File → ℕ → ℕ → Page
page_from f j l =
    let n = 2 ^ (f.g - l) in
    record { depth = l; pattern = j / n; records = merged [] (gathered f j (j + n)) }

-- where page k begins, counted from 0, of pages with these depths, in a directory of depth d
unfoldable pub start_of : ℕ → List ℕ → ℕ → ℕ
start_of d ls zero = 0
start_of d [] (suc k) = 0
start_of d (l ∷ ls) (suc k) = 2 ^ (d - l) + start_of d ls k

-- that directory, the pages numbered from x on
unfoldable pub spread : ℕ → List ℕ → ℕ → List ℕ
spread d [] x = []
spread d (l ∷ ls) x = replicate (2 ^ (d - l)) x ++ spread d ls (suc x)
