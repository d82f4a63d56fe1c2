-- "Tidying between runs": pages are joined until no pair is left, numbered by their first entry, and written with a directory of the wanted depth.
use Rattle.std.specs.Prelude.{ℕ, zero, suc, ◌+◌, ◌-◌, ◌*◌, ◌/◌, ◌^◌, ◌≤◌, ◌<◌, ◌≡◌, ◌⊎◌, ◌↔◌, List, [], ◌∷◌, ◌++◌, Bool, not, ◌&&◌, ◌||◌, length, get_or, replicate, eqb, ltb, leb, Option}
use Rattle.spec.specs.declared.Rec.{Rec}
use Rattle.spec.specs.Basics.{if, when, or_else, any_of, Each, Has}
use Rattle.spec.specs.File.{Page, File, zero_page, page_at, entry_at, put_in}
use Rattle.spec.specs.Job.{max_depth, op_count_at}
use Rattle.spec.specs.Encode.{encode_file}
use Rattle.spec.specs.Decode.{header_of, file_of}
use Rattle.spec.specs.Split.{new_owner}
use Rattle.spec.specs.Check.{Fault, numbered, job_fault}
use Rattle.spec.specs.Outcome.{Outcome, outcome_by, buffer_by}

-- the records of two pages that are joined: those of the second put among those of the first, each in its place, so that calls rise
unfoldable pub merged : List Rec → List Rec → List Rec
merged rs [] = rs
merged rs (a ∷ more) = merged (put_in rs a) more

-- two pages joined: one bit less, and the records of both
unfoldable pub join_pages : Page → Page → Page
join_pages a b = record { depth = a.depth - 1; pattern = a.pattern / 2; records = merged a.records b.records }

-- "two pages of equal depth whose patterns differ only in the last bit .. together they hold at most c records"
pub record Pair (c : ℕ) (a b : Page) : Type 0 where
  pub deep : 0 < a.depth
  pub level : a.depth ≡ b.depth
  pub bits : (a.pattern ≡ 2 * (a.pattern / 2)) × (b.pattern ≡ 2 * (a.pattern / 2) + 1)
  pub few : length a.records + length b.records ≤ c

-- "until no such pair is left"
abbrev pub NoPair : ℕ → List Page → Type 0
NoPair c ps = (a b : Page) → Has a ps → Has b ps → Pair c a b → ⊥

-- one join: qs has the pages of ps but a pair's two, and these two joined
pub record Join (c : ℕ) (ps qs : List Page) : Type 0 where
  pub a : Page
  pub b : Page
  pub has_a : Has a ps
  pub has_b : Has b ps
  pub pair : Pair c a b
  pub after : (q : Page) → Has q qs ↔ ((q ≡ join_pages a b) ⊎ (Has q ps × (q ≡ a → ⊥) × (q ≡ b → ⊥)))

-- the same members
abbrev pub Same : List Page → List Page → Type 0
Same ps qs = (q : Page) → Has q ps ↔ Has q qs

-- any joins, one after another
pub data Joins (c : ℕ) : List Page → List Page → Type 0 where
  stay : {ps qs : List Page} → Same ps qs → Joins c ps qs
  then : {ps qs rs : List Page} → Join c ps qs → Joins c qs rs → Joins c ps rs

-- the page that the first of pattern p's entries names; the pattern has l bits
unfoldable pub page_under : File → ℕ → ℕ → Page
page_under f l p = page_at f (entry_at f (p * 2 ^ (f.g - l)))

-- the pages left under the two halves of a pattern: a pair, where each half has come to one page and the two hold at most c records
unfoldable pub is_pair : ℕ → List Page → List Page → Bool
is_pair c xs ys =
    eqb (length xs) 1
    && eqb (length ys) 1
    && leb (length (get_or xs 0 zero_page).records + length (get_or ys 0 zero_page).records) c

unfoldable pub join_halves : ℕ → List Page → List Page → List Page
join_halves c xs ys = if (is_pair c xs ys) (join_pages (get_or xs 0 zero_page) (get_or ys 0 zero_page) ∷ []) (xs ++ ys)

-- the pages left under pattern p of l bits, of pages up to n bits deeper, by their first entry: its page, or those left under its two halves, joined if they are a pair
unfoldable pub left_under : ℕ → File → ℕ → ℕ → List Page
left_under zero f l p = page_under f l p ∷ []
left_under (suc n) f l p =
    let halves = join_halves f.c (left_under n f (suc l) (2 * p)) (left_under n f (suc l) (2 * p + 1)) in
    if (eqb (page_under f l p).depth l) (page_under f l p ∷ []) halves

-- "two pages .. are joined .., until no such pair is left"
unfoldable pub pages_left : File → List Page
pages_left f = left_under f.g f 0 0

-- the first entry that names a page, in a directory of depth d
unfoldable pub first_entry : ℕ → Page → ℕ
first_entry d q = q.pattern * 2 ^ (d - q.depth)

-- "numbered by their first entry": each page's is before those of the pages behind it
pub data ByFirstEntry (d : ℕ) : List Page → Type 0 where
  nobody : ByFirstEntry d []
  before : {p : Page} {ps : List Page} → Each (λ q. first_entry d p < first_entry d q) ps → ByFirstEntry d ps → ByFirstEntry d (p ∷ ps)

-- the numbers of the pages whose patterns begin the next n entries, from j on
unfoldable pub owners_from : ℕ → ℕ → List Page → ℕ → List ℕ
owners_from zero d ps j = []
owners_from (suc n) d ps j = new_owner d ps 1 j ∷ owners_from n d ps (suc j)

-- "The pages are then numbered by their first entry, and the directory is written at the wanted depth. P is kept, and pages no longer in use are zero"
unfoldable pub file_with : ℕ → File → List Page → File
file_with d f ps =
    record {
      g = d;
      c = f.c;
      limit = f.limit;
      used = length ps;
      directory = owners_from (2 ^ d) d ps 0;
      table = zero_page ∷ ps ++ replicate (f.limit - length ps) zero_page;
    }

unfoldable pub tidy_file : ℕ → File → File
tidy_file d f = file_with d f (pages_left f)

-- the tidied file of a charge file's bytes, as bytes
unfoldable pub tidy_bytes : ℕ → List ℕ → List ℕ
tidy_bytes d b = encode_file (tidy_file d (file_of b))

-- 18: "operations present, at their count"
unfoldable pub ops_present : List ℕ → Option ℕ
ops_present b = when (not (eqb (header_of b).ops 0)) op_count_at

-- 19: "wanted depth above 8 or below the depth of a page left after joining, place 0"
unfoldable pub is_deeper : ℕ → ℕ → Page → Bool
is_deeper d x p = ltb d p.depth

unfoldable pub wrong_depth : ℕ → List ℕ → Option ℕ
wrong_depth d b = when (ltb max_depth d || any_of (is_deeper d) 1 (pages_left (file_of b))) 0

-- 11: "an output under the tidied file's length"
unfoldable pub small_out : ℕ → ℕ → List ℕ → Option ℕ
small_out room d b = when (ltb room (length (tidy_bytes d b))) 0

-- "18 .. after the file's own refusals, then 19 .., then 11"
unfoldable pub tidy_fault : ℕ → ℕ → List ℕ → Option Fault
tidy_fault room d b =
    let last = numbered 11 (small_out room d b) in
    let depth = or_else (numbered 19 (wrong_depth d b)) last in
    let ops = or_else (numbered 18 (ops_present b)) depth in
    or_else (job_fault b) ops

-- what a call comes to, with an output buffer of `room` bytes
unfoldable pub tidy_outcome : ℕ → ℕ → List ℕ → Outcome
tidy_outcome room d b =
    let output = tidy_bytes d b in
    outcome_by (tidy_fault room d b) output

-- and that buffer afterwards
unfoldable pub tidy_buffer : ℕ → List ℕ → List ℕ → List ℕ
tidy_buffer d b buffer =
    let output = tidy_bytes d b in
    buffer_by (tidy_fault (length buffer) d b) output buffer
