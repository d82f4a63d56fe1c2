-- The working memory of a run: what stands where, and the memory with one thing changed.
use Rattle.std.specs.Prelude.{ℕ, ◌+◌, ◌*◌, ◌≤◌, ◌≡◌, List, take, drop, replicate}
use Rattle.spec.specs.Bytes.{byte, word, two}
use Rattle.spec.specs.declared.Found.{Found}
use Rattle.spec.specs.File.{Page, look_in, found_of}
use Rattle.spec.specs.Job.{page_size}
use Rattle.spec.specs.Check.{work_size}
use Rattle.spec.specs.Decode.{page_of}
use Rattle.spec.specs.Encode.{page_bytes}
use Rattle.wire.specs.Over.{over}

-- The directory stands first, 2 bytes an entry; then the locks, a byte a page; the pages in use; the turns on which entries were changed, 2
-- bytes for each entry and local depth; and the pages. Page x stands at place x, for locks and pages, and place 0 is not used.
abbrev pub locks_at : ℕ
locks_at = 512

abbrev pub used_at : ℕ
used_at = 1024

abbrev pub turns_at : ℕ
turns_at = 1026

abbrev pub pages_at : ℕ
pages_at = 5122

-- the page number that entry j names
unfoldable pub entry_in : List ℕ → ℕ → ℕ
entry_in w j = word w (2 * j)

unfoldable pub with_entry : List ℕ → ℕ → ℕ → List ℕ
with_entry w j v = over w (2 * j) (two v)

-- 1 where page x is locked, else 0; and the locks of n pages, from x on, made v
unfoldable pub lock_in : List ℕ → ℕ → ℕ
lock_in w x = byte w (locks_at + x)

unfoldable pub with_locks : List ℕ → ℕ → ℕ → ℕ → List ℕ
with_locks w x n v = over w (locks_at + x) (replicate n v)

-- the pages in use
unfoldable pub used_in : List ℕ → ℕ
used_in w = word w used_at

unfoldable pub with_used : List ℕ → ℕ → List ℕ
with_used w v = over w used_at (two v)

-- the turn on which entry e was changed from a page of local depth d
unfoldable pub turn_in : List ℕ → ℕ → ℕ → ℕ
turn_in w e d = word w (turns_at + 2 * (8 * e + d))

unfoldable pub with_turn : List ℕ → ℕ → ℕ → ℕ → List ℕ
with_turn w e d v = over w (turns_at + 2 * (8 * e + d)) (two v)

-- page x, of capacity c: its place, its bytes, what they say, and another page written in its place
unfoldable pub place_of : ℕ → ℕ → ℕ
place_of c x = pages_at + page_size c * x

-- page x stands from place `at` to place e
pub record Stands (c x at e : ℕ) : Type 0 where
  pub begins : at ≡ place_of c x
  pub ends : e ≡ place_of c x + page_size c
  pub within : e ≤ work_size

unfoldable pub part_in : ℕ → List ℕ → ℕ → List ℕ
part_in c w x = take (page_size c) (drop (place_of c x) w)

unfoldable pub page_in : ℕ → List ℕ → ℕ → Page
page_in c w x = page_of (part_in c w x)

unfoldable pub with_page : ℕ → List ℕ → ℕ → Page → List ℕ
with_page c w x p = over w (place_of c x) (page_bytes c p)

-- page x is looked into for a call, up to the first higher number
abbrev pub found_in : ℕ → List ℕ → ℕ → ℕ → Found
found_in c w x k = found_of x (look_in (page_in c w x).records k)
