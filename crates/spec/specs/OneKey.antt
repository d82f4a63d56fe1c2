-- Calls that share a pseudo key, all 32 bits of it: a job that tells two apart by their numbers, and one whose page is full of two when a third comes.
use Rattle.std.specs.Prelude.{ℕ, List, [], ◌∷◌, ◌++◌, take, drop, replicate}
use Rattle.spec.specs.Basics.{each}
use Rattle.spec.specs.Bytes.{two, four}

-- call 474790318 is in the page with call 5, and 141231736, which has its pseudo key, is inserted: call 5 moves to page 2. The first is looked for
-- and deleted, and then the second is looked for; one after another
abbrev pub job_two : List ℕ
job_two =
    (2 ∷ 0 ∷ 2 ∷ 2 ∷ 2 ∷ 0 ∷ 1 ∷ 0 ∷ 4 ∷ 0 ∷ 20 ∷ 0 ∷  -- version, g, c, P, U, m, turns
    32 ∷ 0 ∷ 0 ∷ 0 ∷ 40 ∷ 0 ∷ 0 ∷ 0 ∷ 80 ∷ 0 ∷ 0 ∷ 0 ∷ 120 ∷ 0 ∷ 0 ∷ 0 ∷ 160 ∷ 0 ∷ 0 ∷ 0 ∷  -- offsets of directory, page table, operations and turns; total
    1 ∷ 0 ∷ 1 ∷ 0 ∷ 1 ∷ 0 ∷ 1 ∷ 0 ∷  -- directory
    0 ∷ 2 ∷ 0 ∷ 0 ∷ []) ++ each four (5 ∷ 20 ∷ 474790318 ∷ 10 ∷ [])  -- page 1
    ++ replicate 20 0  -- page 2
    ++ (2 ∷ 0 ∷ []) ++ four 141231736 ++ four 30  -- operation 0
    ++ (1 ∷ 0 ∷ []) ++ four 474790318 ++ four 0  -- operation 1
    ++ (3 ∷ 0 ∷ []) ++ four 474790318 ++ four 0  -- operation 2
    ++ (1 ∷ 0 ∷ []) ++ four 141231736 ++ four 0  -- operation 3
    ++ each two (replicate 10 0 ++ replicate 2 1 ++ replicate 6 2 ++ replicate 2 3)  -- turns

abbrev pub result_two : List ℕ
result_two =
    (2 ∷ 0 ∷ 4 ∷ 0 ∷ 4 ∷ 0 ∷ 0 ∷ 0 ∷ 24 ∷ 0 ∷ 0 ∷ 0 ∷ 56 ∷ 0 ∷ 0 ∷ 0 ∷ 72 ∷ 0 ∷ 0 ∷ 0 ∷ 152 ∷ 0 ∷ 0 ∷ 0 ∷  -- version, m, L, unfinished; offsets of answers, log and charge file; total
    3 ∷ 0 ∷ 10 ∷ 0 ∷ 30 ∷ 0 ∷ 0 ∷ 0 ∷  -- answer 0
    1 ∷ 0 ∷ 2 ∷ 0 ∷ 10 ∷ 0 ∷ 0 ∷ 0 ∷  -- answer 1
    5 ∷ 0 ∷ 6 ∷ 0 ∷ 10 ∷ 0 ∷ 0 ∷ 0 ∷  -- answer 2
    1 ∷ 0 ∷ 2 ∷ 0 ∷ 30 ∷ 0 ∷ 0 ∷ 0 ∷  -- answer 3
    8 ∷ 0 ∷ 0 ∷ 0 ∷ 11 ∷ 0 ∷ 1 ∷ 0 ∷ 16 ∷ 0 ∷ 2 ∷ 0 ∷ 19 ∷ 0 ∷ 3 ∷ 0 ∷  -- log
    2 ∷ 0 ∷ 2 ∷ 2 ∷ 2 ∷ 0 ∷ 2 ∷ 0 ∷ 0 ∷ 0 ∷ 0 ∷ 0 ∷  -- file: version, g, c, P, U, m, turns
    32 ∷ 0 ∷ 0 ∷ 0 ∷ 40 ∷ 0 ∷ 0 ∷ 0 ∷ 80 ∷ 0 ∷ 0 ∷ 0 ∷ 80 ∷ 0 ∷ 0 ∷ 0 ∷ 80 ∷ 0 ∷ 0 ∷ 0 ∷  -- file: offsets of directory, page table, operations and turns; total
    1 ∷ 0 ∷ 1 ∷ 0 ∷ 2 ∷ 0 ∷ 2 ∷ 0 ∷  -- file: directory
    1 ∷ 1 ∷ 0 ∷ 0 ∷ []) ++ each four (141231736 ∷ 30 ∷ 0 ∷ 0 ∷ [])  -- file: page 1
    ++ (1 ∷ 1 ∷ 1 ∷ 0 ∷ []) ++ each four (5 ∷ 20 ∷ 0 ∷ 0 ∷ [])  -- file: page 2

-- the deepest directory there is, free pages, and a page full of 2266965870 and 2390834178; call 2723606448, which has their pseudo key, is inserted
abbrev pub job_three : List ℕ
job_three =
    (2 ∷ 0 ∷ 8 ∷ 2 ∷ 3 ∷ 0 ∷ 1 ∷ 0 ∷ 1 ∷ 0 ∷ 5 ∷ 0 ∷  -- version, g, c, P, U, m, turns
    32 ∷ 0 ∷ 0 ∷ 0 ∷ 32 ∷ 2 ∷ 0 ∷ 0 ∷ 92 ∷ 2 ∷ 0 ∷ 0 ∷ 102 ∷ 2 ∷ 0 ∷ 0 ∷ 112 ∷ 2 ∷ 0 ∷ 0 ∷ [])  -- offsets of directory, page table, operations and turns; total
    ++ each two (replicate 256 1)  -- directory
    ++ (0 ∷ 2 ∷ 0 ∷ 0 ∷ []) ++ each four (2266965870 ∷ 10 ∷ 2390834178 ∷ 20 ∷ [])  -- page 1
    ++ replicate 40 0  -- pages 2 and 3
    ++ (2 ∷ 0 ∷ []) ++ four 2723606448 ++ four 30  -- operation 0
    ++ each two (replicate 5 0)  -- turns

abbrev pub result_three : List ℕ
result_three =
    (2 ∷ 0 ∷ 1 ∷ 0 ∷ 1 ∷ 0 ∷ 0 ∷ 0 ∷ 24 ∷ 0 ∷ 0 ∷ 0 ∷ 32 ∷ 0 ∷ 0 ∷ 0 ∷ 36 ∷ 0 ∷ 0 ∷ 0 ∷ 128 ∷ 2 ∷ 0 ∷ 0 ∷  -- version, m, L, unfinished; offsets of answers, log and charge file; total
    7 ∷ 0 ∷ 5 ∷ 0 ∷ 0 ∷ 0 ∷ 0 ∷ 0 ∷  -- answer 0
    3 ∷ 0 ∷ 0 ∷ 0 ∷  -- log
    2 ∷ 0 ∷ 8 ∷ 2 ∷ 3 ∷ 0 ∷ 1 ∷ 0 ∷ 0 ∷ 0 ∷ 0 ∷ 0 ∷  -- file: version, g, c, P, U, m, turns
    32 ∷ 0 ∷ 0 ∷ 0 ∷ 32 ∷ 2 ∷ 0 ∷ 0 ∷ 92 ∷ 2 ∷ 0 ∷ 0 ∷ 92 ∷ 2 ∷ 0 ∷ 0 ∷ 92 ∷ 2 ∷ 0 ∷ 0 ∷ [])  -- file: offsets of directory, page table, operations and turns; total
    ++ take 572 (drop 32 job_three)  -- file: directory and pages, as they were
