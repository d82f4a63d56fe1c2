-- "Refused jobs": for each number of the table, the lowest place at which its row holds, and the first fault of a job. 12 and 13, and what 6 says,
-- are document 02's, point 1; that 8 asks for rising calls is its point 10.
use Rattle.std.specs.Prelude.{ℕ, ◌+◌, ◌-◌, ◌*◌, ◌^◌, List, [], ◌∷◌, Bool, not, ◌&&◌, ◌||◌, length, get_or, drop, ltb, leb, eqb, Option, None, Some}
use Rattle.spec.specs.declared.Rec.{Rec}
use Rattle.spec.specs.Basics.{if, when, or_else, among, first_of, any_of}
use Rattle.spec.specs.Bytes.{byte, word, long}
use Rattle.spec.specs.Key.{index, begins}
use Rattle.spec.specs.File.{Page, File, no_record, page_at, pages_in_use}
use Rattle.spec.specs.Job.{min_depth, max_depth, min_capacity, max_capacity, min_pages, max_pages, min_ops, max_ops, min_turns, max_turns, Header, header_size, job_version, version_at, g_at, c_at, limit_at, used_at, op_count_at, turn_count_at, directory_offset_at, table_offset_at, ops_offset_at, turns_offset_at, total_at, record_size, directory_offset, table_offset, ops_offset, turns_offset, total, entry_place, page_place, record_place, op_place, turn_place, file_length}
use Rattle.spec.specs.Decode.{header_of, file_of, page_parts, op_parts, turn_parts, number_of}

-- "A refusal gives the number and a place"
pub record Fault : Type 0 where
  pub number : ℕ
  pub place : ℕ

unfoldable pub numbered : ℕ → Option ℕ → Option Fault
numbered n None = None
numbered n (Some p) = Some (record { number = n; place = p })

-- A row of the table tells the fault that it finds in a job's bytes, or in a page's. Most have one number, and a test that tells the lowest place
-- at which the row holds.
abbrev pub TableRow : Type 0
TableRow = List ℕ → Option Fault

abbrev pub row : ℕ → (List ℕ → Option ℕ) → TableRow
row n test b = numbered n (test b)

-- the fault of the first of some rows, in the list's order, that finds one
unfoldable pub first_row : List TableRow → TableRow
first_row [] b = None
first_row (r ∷ rs) b = let rest = first_row rs b in or_else (r b) rest

unfoldable pub outside : ℕ → ℕ → ℕ → Bool
outside least most n = ltb n least || ltb most n

-- 1 short: "under 32 bytes; place is the length"
unfoldable pub short : List ℕ → Option ℕ
short b = when (ltb (length b) header_size) (length b)

-- 2 version: "Job version is 2; version 1 gives refusal 2". "and 0 for 2"
unfoldable pub wrong_version : List ℕ → Option ℕ
wrong_version b = when (not (eqb (word b version_at) job_version)) version_at

-- 3 limit: "a count outside its limits, or U is 0 or above P"; "the first byte of the field"
unfoldable pub over_limit : List ℕ → Option ℕ
over_limit b =
    let h = header_of b in
    among
    (when (outside min_depth max_depth h.g) g_at
    ∷ when (outside min_capacity max_capacity h.c) c_at
    ∷ when (outside min_pages max_pages h.limit) limit_at
    ∷ when (outside 1 h.limit h.used) used_at
    ∷ when (outside min_ops max_ops h.ops) op_count_at
    ∷ when (outside min_turns max_turns h.turns) turn_count_at
    ∷ [])

-- 4 offset: "an offset or total not as computed; length not the total (place 28)"
unfoldable pub wrong_offset : List ℕ → Option ℕ
wrong_offset b =
    let h = header_of b in
    among
    (when (not (eqb (long b directory_offset_at) directory_offset)) directory_offset_at
    ∷ when (not (eqb (long b table_offset_at) (table_offset h))) table_offset_at
    ∷ when (not (eqb (long b ops_offset_at) (ops_offset h))) ops_offset_at
    ∷ when (not (eqb (long b turns_offset_at) (turns_offset h))) turns_offset_at
    ∷ when (not (eqb (long b total_at) (total h)) || not (eqb (length b) (total h))) total_at
    ∷ [])

-- 5 entry: "0 or above U"
unfoldable pub entry_fault : ℕ → ℕ → ℕ → Option ℕ
entry_fault used j x = when (outside 1 used x) (entry_place j)

unfoldable pub wrong_entry : List ℕ → Option ℕ
wrong_entry b = let f = file_of b in first_of (entry_fault f.used) 0 f.directory

-- 12 pattern: "A depth above g or a pattern too large" ("2^l or more"), "at that field". The page's bytes are p, and it begins at place a
unfoldable pub wrong_pattern : ℕ → ℕ → List ℕ → Option ℕ
wrong_pattern g a p = among (when (ltb g (byte p 0)) a ∷ when (leb (2 ^ byte p 0) (word p 2)) (a + 2) ∷ [])

-- 6 page: "count above c"; "Refusal 6 keeps the record count"
unfoldable pub over_count : ℕ → ℕ → List ℕ → Option ℕ
over_count c a p = when (ltb c (byte p 1)) a

-- 13 zero: "at the first byte that should be zero and is not". The bytes s should be zero, and the first of them stands at place a
unfoldable pub not_zero : ℕ → List ℕ → Option ℕ
not_zero a s = first_of (λ i x. when (not (eqb x 0)) i) a s

-- 13 in a page in use: "an unused record .. not zero"
unfoldable pub not_cleared : ℕ → List ℕ → Option ℕ
not_cleared a p = let n = 4 + record_size * byte p 1 in not_zero (a + n) (drop n p)

-- "Checks: 12 .., then 6, then 13 ..": the rows of a page in use that begins at place a
abbrev pub used_rows : Header → ℕ → List TableRow
used_rows h a = row 12 (wrong_pattern h.g a) ∷ row 6 (over_count h.c a) ∷ row 13 (not_cleared a) ∷ []

-- "and on an unused page 13 alone"
abbrev pub unused_rows : ℕ → List TableRow
unused_rows a = row 13 (not_zero a) ∷ []

-- the first fault of page x, which has the bytes p
unfoldable pub page_fault : Header → ℕ → List ℕ → Option Fault
page_fault h x p = let a = page_place h x in first_row (if (ltb h.used x) (unused_rows a) (used_rows h a)) p

-- "within each page before the next page is looked at"
unfoldable pub wrong_page : TableRow
wrong_page b = let h = header_of b in first_of (page_fault h) 1 (page_parts h b)

-- the pattern of a page begins entry j
unfoldable pub owns : ℕ → ℕ → Page → Bool
owns g j p = begins g p.depth p.pattern j

-- page y, which is p, is another page than x, and its pattern begins entry j
unfoldable pub owns_too : ℕ → ℕ → ℕ → ℕ → Page → Bool
owns_too g j x y p = not (eqb y x) && owns g j p

-- 7 owner: "for entry j, its page's pattern does not begin j, or another page's in use does". Entry j names page x
unfoldable pub bad_owner : File → ℕ → ℕ → Bool
bad_owner f j x = not (owns f.g j (page_at f x)) || any_of (owns_too f.g j x) 1 (pages_in_use f)

unfoldable pub owner_fault : File → ℕ → ℕ → Option ℕ
owner_fault f j x = when (bad_owner f j x) (entry_place j)

unfoldable pub wrong_owner : List ℕ → Option ℕ
wrong_owner b = let f = file_of b in first_of (owner_fault f) 0 f.directory

-- record number i of some, which is r, "is not above the one before it"
unfoldable pub not_above : List Rec → ℕ → Rec → Bool
not_above rs i r = ltb 0 i && leb r.call (get_or rs (i - 1) no_record).call

-- 8 record: "pseudo key does not begin with the pattern", or "a page out of order". ("Or the call is earlier in the page" holds at no lower place:
-- law Codec/Repeats.) Record number i of the page is r
unfoldable pub bad_record : Page → ℕ → Rec → Bool
bad_record p i r = not (eqb (index p.depth r.call) p.pattern) || not_above p.records i r

unfoldable pub record_fault : ℕ → Page → ℕ → Rec → Option ℕ
record_fault place p i r = when (bad_record p i r) (record_place place i)

unfoldable pub record_fault_in : Header → ℕ → Page → Option ℕ
record_fault_in h x p = first_of (record_fault (page_place h x) p) 0 p.records

unfoldable pub wrong_record : List ℕ → Option ℕ
wrong_record b = let h = header_of b in first_of (record_fault_in h) 1 (pages_in_use (file_of b))

-- 9 operation: "kind not 1 to 3, spare byte or charge not zero where it must be". Zero it must be in a search alone: "charge (4; zero unless an
-- insert)", but a delete with another "deletes only where the file's charge is equal". The operation has the bytes o
unfoldable pub bad_op : List ℕ → Bool
bad_op o = outside 1 3 (byte o 0) || not (eqb (byte o 1) 0) || (eqb (byte o 0) 1 && not (eqb (long o 6) 0))

unfoldable pub op_fault : Header → ℕ → List ℕ → Option ℕ
op_fault h i o = when (bad_op o) (op_place h i)

unfoldable pub wrong_op : List ℕ → Option ℕ
wrong_op b = let h = header_of b in first_of (op_fault h) 0 (op_parts h b)

-- 10 turn: "m or above"
unfoldable pub turn_fault : Header → ℕ → List ℕ → Option ℕ
turn_fault h t u = when (leb h.ops (number_of u)) (turn_place h t)

unfoldable pub wrong_turn : List ℕ → Option ℕ
wrong_turn b = let h = header_of b in first_of (turn_fault h) 0 (turn_parts h b)

-- The lengths of what is lent: the buffer of the output in bytes, table in rows, other working memory in bytes.
pub record Lent : Type 0 where
  pub output : ℕ
  pub rows : ℕ
  pub work : ℕ

-- "24 + 12m + the charge file's length"
unfoldable pub result_size : Header → ℕ
result_size h = 24 + 12 * h.ops + file_length h

-- "other lent working memory under 24,576 bytes"
abbrev pub work_size : ℕ
work_size = 24576

-- 11, of a call that asks for an output buffer of `size` bytes (place 0); "lent table under m rows (place 1); other lent working memory under ..
-- (place 2)"
unfoldable pub small_for : ℕ → Lent → List ℕ → Option ℕ
small_for size l b =
    among (when (ltb l.output size) 0 ∷ when (ltb l.rows (header_of b).ops) 1 ∷ when (ltb l.work work_size) 2 ∷ [])

-- 11 output: "result buffer under 24 + 12m + the charge file's length (place 0)"
unfoldable pub small_output : Lent → List ℕ → Option ℕ
small_output l b = small_for (result_size (header_of b)) l b

-- "Checked by rising number except that 11 comes last", and that 12, 6 and 13 stand "where 6 stood": the rows that are about a job's bytes alone, in
-- the order in which they are checked
abbrev pub rows : List TableRow
rows =
    row 1 short
    ∷ row 2 wrong_version
    ∷ row 3 over_limit
    ∷ row 4 wrong_offset
    ∷ row 5 wrong_entry
    ∷ wrong_page  -- 12, 6 and 13, page by page
    ∷ row 7 wrong_owner
    ∷ row 8 wrong_record
    ∷ row 9 wrong_op
    ∷ row 10 wrong_turn
    ∷ []

unfoldable pub job_fault : TableRow
job_fault b = first_row rows b

-- all rows: 11 asks what is lent too, and comes last
unfoldable pub first_fault : Lent → List ℕ → Option Fault
first_fault l b = let last = numbered 11 (small_output l b) in or_else (job_fault b) last
