-- "Refused jobs", condition by condition: each row of this table changes a few bytes of a job that is run, or what is lent to it. One proof.
use Rattle.std.specs.Prelude.{ℕ, ◌≡◌, refl, List, [], ◌∷◌, ◌++◌, map, Option, None, Some}
use lib.ListN.{set, take, replicate}
use Rattle.spec.specs.Check.{Lent, Fault, first_fault}
use Rattle.spec.specs.Outcome.{buffer_after, rows_after, work_after}
use Rattle.spec.specs.Opened.{opened}

-- g 1, c 2, P 3, U 2; page 1 holds call 4, page 2 calls 1 and 3, page 3 is not in use; search 3 and insert 2; turns 0 and 1
abbrev base : List ℕ
base =
    2 ∷ 0 ∷ 1 ∷ 2 ∷ 3 ∷ 0 ∷ 2 ∷ 0 ∷ 2 ∷ 0 ∷ 2 ∷ 0 ∷  -- version, g, c, P, U, m, turns
    32 ∷ 0 ∷ 0 ∷ 0 ∷ 36 ∷ 0 ∷ 0 ∷ 0 ∷ 96 ∷ 0 ∷ 0 ∷ 0 ∷ 116 ∷ 0 ∷ 0 ∷ 0 ∷ 120 ∷ 0 ∷ 0 ∷ 0 ∷  -- offsets of directory, page table, operations and turns; total
    1 ∷ 0 ∷ 2 ∷ 0 ∷  -- directory
    1 ∷ 1 ∷ 0 ∷ 0 ∷ 4 ∷ 0 ∷ 0 ∷ 0 ∷ 50 ∷ 0 ∷ 0 ∷ 0 ∷ 0 ∷ 0 ∷ 0 ∷ 0 ∷ 0 ∷ 0 ∷ 0 ∷ 0 ∷  -- page 1
    1 ∷ 2 ∷ 1 ∷ 0 ∷ 1 ∷ 0 ∷ 0 ∷ 0 ∷ 10 ∷ 0 ∷ 0 ∷ 0 ∷ 3 ∷ 0 ∷ 0 ∷ 0 ∷ 70 ∷ 0 ∷ 0 ∷ 0 ∷  -- page 2
    0 ∷ 0 ∷ 0 ∷ 0 ∷ 0 ∷ 0 ∷ 0 ∷ 0 ∷ 0 ∷ 0 ∷ 0 ∷ 0 ∷ 0 ∷ 0 ∷ 0 ∷ 0 ∷ 0 ∷ 0 ∷ 0 ∷ 0 ∷  -- page 3
    1 ∷ 0 ∷ 3 ∷ 0 ∷ 0 ∷ 0 ∷ 0 ∷ 0 ∷ 0 ∷ 0 ∷  -- operation 0
    2 ∷ 0 ∷ 2 ∷ 0 ∷ 0 ∷ 0 ∷ 90 ∷ 0 ∷ 0 ∷ 0 ∷  -- operation 1
    0 ∷ 0 ∷ 1 ∷ 0 ∷  -- turns
    []

-- and with no record in page 1
abbrev empty : List ℕ
empty = set (set (set base 37 0) 40 0) 44 0

-- a charge file, g 1, c 3, P 2, U 2; page 1 has these three calls, page 2 has none
abbrev calls : ℕ → ℕ → ℕ → List ℕ
calls x y z =
    2 ∷ 0 ∷ 1 ∷ 3 ∷ 2 ∷ 0 ∷ 2 ∷ 0 ∷ 0 ∷ 0 ∷ 0 ∷ 0 ∷  -- version, g, c, P, U, m, turns
    32 ∷ 0 ∷ 0 ∷ 0 ∷ 36 ∷ 0 ∷ 0 ∷ 0 ∷ 92 ∷ 0 ∷ 0 ∷ 0 ∷ 92 ∷ 0 ∷ 0 ∷ 0 ∷ 92 ∷ 0 ∷ 0 ∷ 0 ∷  -- offsets of directory, page table, operations and turns; total
    1 ∷ 0 ∷ 2 ∷ 0 ∷  -- directory
    1 ∷ 3 ∷ 0 ∷ 0 ∷ x ∷ 0 ∷ 0 ∷ 0 ∷ 10 ∷ 0 ∷ 0 ∷ 0 ∷ y ∷ 0 ∷ 0 ∷ 0 ∷ 20 ∷ 0 ∷ 0 ∷ 0 ∷ z ∷ 0 ∷ 0 ∷ 0 ∷ 30 ∷ 0 ∷ 0 ∷ 0 ∷  -- page 1
    1 ∷ 0 ∷ 1 ∷ 0 ∷ 0 ∷ 0 ∷ 0 ∷ 0 ∷ 0 ∷ 0 ∷ 0 ∷ 0 ∷ 0 ∷ 0 ∷ 0 ∷ 0 ∷ 0 ∷ 0 ∷ 0 ∷ 0 ∷ 0 ∷ 0 ∷ 0 ∷ 0 ∷ 0 ∷ 0 ∷ 0 ∷ 0 ∷  -- page 2
    []

record Edit : Type 0 where
  lent : Lent
  bytes : List ℕ
  says : Option Fault

abbrev lend : ℕ → ℕ → ℕ → Lent
lend r t w = record { output = r; rows = t; work = w }

-- 24 + 12 * 2 + the 96 bytes of the charge file
abbrev enough : Lent
enough = lend 144 2 24576

-- a job that is run; one that is refused with this number and place; and the base with the byte at a place made another
abbrev fine : Lent → List ℕ → Edit
fine l b = record { lent = l; bytes = b; says = None }

abbrev lending : ℕ → ℕ → ℕ → List ℕ → ℕ → ℕ → Edit
lending r t w b n p = record { lent = lend r t w; bytes = b; says = Some (record { number = n; place = p }) }

abbrev other : List ℕ → ℕ → ℕ → Edit
other b n p = lending 144 2 24576 b n p

abbrev edit : ℕ → ℕ → ℕ → ℕ → Edit
edit at value n p = other (set base at value) n p

abbrev edits : List Edit
edits =
    fine enough base
    ∷ other [] 1 0  -- short
    ∷ other (take 31 base) 1 31
    ∷ other (base ++ (0 ∷ [])) 4 28  -- length not the total
    ∷ other (take 119 base) 4 28
    ∷ other (set (set base 76 1) 32 0) 5 32  -- two faults: the earlier row
    ∷ other (set (set base 116 2) 68 1) 8 68
    ∷ other (set (set base 118 2) 116 2) 10 116  -- the lower place
    ∷ edit 0 1 2 0  -- version
    ∷ edit 0 3 2 0
    ∷ edit 1 1 2 0
    ∷ edit 2 9 3 2  -- depth
    ∷ edit 3 0 3 3  -- capacity
    ∷ edit 3 9 3 3
    ∷ edit 4 0 3 4  -- pages
    ∷ edit 5 1 3 4
    ∷ edit 6 0 3 6  -- U is 0
    ∷ edit 6 4 3 6  -- U above P
    ∷ edit 9 2 3 8  -- operations
    ∷ edit 11 65 3 10  -- turns
    ∷ edit 12 33 4 12  -- offsets
    ∷ edit 16 37 4 16
    ∷ edit 20 97 4 20
    ∷ edit 24 117 4 24
    ∷ edit 28 121 4 28
    ∷ edit 2 0 4 16  -- another depth moves the page table
    ∷ edit 3 1 4 20  -- another capacity, the operations
    ∷ edit 8 1 4 24  -- another count, the turns
    ∷ edit 10 1 4 28  -- and the total
    ∷ edit 32 0 5 32  -- entry 0
    ∷ edit 34 3 5 34  -- above U, and not above P
    ∷ edit 36 2 12 36  -- l above g
    ∷ edit 36 255 12 36
    ∷ edit 38 2 12 38  -- pattern 2^l
    ∷ edit 59 1 12 58
    ∷ edit 56 0 12 58  -- a pattern of no bits
    ∷ other (set (set base 38 4) 36 2) 12 36  -- both: the depth
    ∷ edit 57 3 6 56  -- count above c
    ∷ edit 57 255 6 56
    ∷ edit 48 1 13 48  -- an unused record
    ∷ edit 55 1 13 55  -- its last byte
    ∷ other (set (set base 55 1) 50 1) 13 50  -- the first of two bytes
    ∷ edit 37 0 13 40  -- no record counted
    ∷ fine enough empty
    ∷ other (set empty 43 1) 13 43  -- two unused records
    ∷ other (set empty 55 1) 13 55
    ∷ edit 76 9 13 76  -- an unused page: what would be its depth
    ∷ edit 77 9 13 77  -- its count
    ∷ edit 79 1 13 79  -- its pattern
    ∷ edit 95 1 13 95  -- its last byte
    ∷ other (set (set base 78 1) 77 9) 13 77
    ∷ other (set (set base 6 1) 34 1) 13 56  -- a page that U leaves out
    ∷ other (set (set base 57 3) 56 2) 12 56  -- within a page: 12 before 6
    ∷ other (set (set base 57 3) 58 2) 12 58
    ∷ other (set (set base 48 1) 38 2) 12 38  -- 12 before 13
    ∷ other (set (set base 56 2) 48 1) 13 48  -- the earlier page first: 13 there before 12, and before 6
    ∷ other (set (set base 57 3) 48 1) 13 48
    ∷ other (set (set base 58 2) 37 3) 6 36  -- 6 there before 12
    ∷ other (set (set base 76 1) 57 3) 6 56  -- the unused page comes behind
    ∷ other (set (set base 95 1) 34 3) 5 34  -- 5 before them
    ∷ other (set (set base 95 1) 34 1) 13 95  -- 7 after them
    ∷ edit 34 1 7 34  -- its page's pattern does not begin j
    ∷ edit 32 2 7 32
    ∷ edit 36 0 7 34  -- another page's does
    ∷ edit 40 1 8 40  -- pseudo key
    ∷ edit 60 0 8 60
    ∷ edit 68 1 8 68  -- the same call as the record before it
    ∷ edit 60 5 8 68  -- below the one before it
    ∷ edit 63 1 8 68  -- by the last byte of the one before it
    ∷ other (set (set base 60 5) 68 4) 8 68  -- both at one record
    ∷ other (set (set base 68 1) 40 1) 8 40  -- the earlier page first: pattern there before order, and order before pattern
    ∷ other (set (set (set (set base 60 0) 37 2) 40 11) 48 4) 8 48
    ∷ fine enough (calls 0 4 7)  -- rising calls, from 0 on
    ∷ other (calls 0 0 4) 8 48
    ∷ other (calls 7 4 9) 8 48
    ∷ other (calls 4 9 7) 8 56
    ∷ other (calls 4 7 7) 8 56
    ∷ other (calls 9 7 4) 8 48  -- the first of two
    ∷ other (calls 9 7 9) 8 48  -- the call is earlier in the page: out of order before that
    ∷ other (calls 4 9 4) 8 56  -- and there
    ∷ other (calls 7 4 8) 8 48  -- in one page, the lower place: order before pattern
    ∷ other (calls 4 8 7) 8 48  -- and pattern before order
    ∷ edit 96 0 9 96  -- kind
    ∷ edit 96 4 9 96
    ∷ edit 97 1 9 96  -- spare byte
    ∷ other (set (set base 106 3) 107 1) 9 106
    ∷ edit 102 1 9 96  -- a search's charge
    ∷ edit 105 1 9 96
    ∷ edit 106 1 9 106
    ∷ fine enough (set base 106 3)  -- a delete's charge
    ∷ edit 116 2 10 116  -- m
    ∷ edit 118 2 10 118
    ∷ edit 119 1 10 118
    ∷ lending 143 1 24575 (set base 118 2) 10 118  -- 11 comes last
    ∷ lending 0 0 0 (set base 0 1) 2 0
    ∷ lending 143 2 24576 base 11 0  -- result buffer
    ∷ lending 143 1 0 base 11 0
    ∷ lending 144 1 24576 base 11 1  -- lent table
    ∷ lending 144 1 24575 base 11 1
    ∷ lending 144 2 24575 base 11 2  -- working memory
    ∷ fine (lend 1000 9 30000) base
    ∷ []

refusals : map (λ (e : Edit). first_fault e.lent e.bytes) edits ≡ map (λ (e : Edit). e.says) edits
unfolding opened
refusals = refl

-- What was lent, afterwards: 3 rows that are all 9, working memory that is all 5, and a buffer that is all 7; the fixed row is 0.
record After : Type 0 where
  rows : List ℕ
  work : List ℕ
  tail : List ℕ

abbrev after : List ℕ → After
after b =
    let l : Lent = lend 150 3 24580 in
    record {
      rows = rows_after 0 l b (replicate 3 9);
      work = work_after l b (replicate 24580 5);
      tail = lib.ListN.drop 100 (buffer_after l b (replicate 150 7));
    }

-- job `base` with no operations and no turns: its result has 24 + 96 bytes
abbrev plain_file : List ℕ
plain_file = take 96 (set (set (set (set base 8 0) 10 0) 24 96) 28 96)

run_clears
    : after plain_file
    ≡ record { rows = replicate 3 0; work = replicate 24580 0; tail = replicate 20 0 ++ replicate 30 7 }
unfolding opened
run_clears = refl

refusal_writes_nothing : after (set plain_file 2 9) ≡ record { rows = replicate 3 9; work = replicate 24580 5; tail = replicate 50 7 }
unfolding opened
refusal_writes_nothing = refl
