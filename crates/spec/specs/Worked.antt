-- "Jobs worked through": the bytes of the marked jobs and of their results, worked out from the document.
use Rattle.std.specs.Prelude.{ℕ, List, [], ◌∷◌, ◌++◌, set, take, drop, replicate}
use Rattle.spec.specs.Basics.{each}
use Rattle.spec.specs.Bytes.{text, two, four}

-- (B) job E
abbrev pub job_b : List ℕ
job_b =
    2 ∷ 0 ∷ 1 ∷ 2 ∷ 2 ∷ 0 ∷ 1 ∷ 0 ∷ 4 ∷ 0 ∷ 20 ∷ 0 ∷  -- version, g, c, P, U, m, turns
    32 ∷ 0 ∷ 0 ∷ 0 ∷ 36 ∷ 0 ∷ 0 ∷ 0 ∷ 76 ∷ 0 ∷ 0 ∷ 0 ∷ 116 ∷ 0 ∷ 0 ∷ 0 ∷ 156 ∷ 0 ∷ 0 ∷ 0 ∷  -- offsets of directory, page table, operations and turns; total
    1 ∷ 0 ∷ 1 ∷ 0 ∷  -- directory
    0 ∷ 2 ∷ 0 ∷ 0 ∷ 2 ∷ 0 ∷ 0 ∷ 0 ∷ 50 ∷ 0 ∷ 0 ∷ 0 ∷ 3 ∷ 0 ∷ 0 ∷ 0 ∷ 70 ∷ 0 ∷ 0 ∷ 0 ∷  -- page 1
    0 ∷ 0 ∷ 0 ∷ 0 ∷ 0 ∷ 0 ∷ 0 ∷ 0 ∷ 0 ∷ 0 ∷ 0 ∷ 0 ∷ 0 ∷ 0 ∷ 0 ∷ 0 ∷ 0 ∷ 0 ∷ 0 ∷ 0 ∷  -- page 2
    2 ∷ 0 ∷ 4 ∷ 0 ∷ 0 ∷ 0 ∷ 90 ∷ 0 ∷ 0 ∷ 0 ∷  -- operation 0
    1 ∷ 0 ∷ 3 ∷ 0 ∷ 0 ∷ 0 ∷ 0 ∷ 0 ∷ 0 ∷ 0 ∷  -- operation 1
    3 ∷ 0 ∷ 3 ∷ 0 ∷ 0 ∷ 0 ∷ 0 ∷ 0 ∷ 0 ∷ 0 ∷  -- operation 2
    1 ∷ 0 ∷ 3 ∷ 0 ∷ 0 ∷ 0 ∷ 0 ∷ 0 ∷ 0 ∷ 0 ∷  -- operation 3
    1 ∷ 0 ∷ 0 ∷ 0 ∷ 0 ∷ 0 ∷ 0 ∷ 0 ∷ 0 ∷ 0 ∷ 0 ∷ 0 ∷ 0 ∷ 0 ∷ 0 ∷ 0 ∷ 2 ∷ 0 ∷ 2 ∷ 0 ∷ 2 ∷ 0 ∷ 2 ∷ 0 ∷ 2 ∷ 0 ∷ 2 ∷ 0 ∷ 3 ∷ 0 ∷ 3 ∷ 0 ∷ 3 ∷ 0 ∷ 1 ∷ 0 ∷ 0 ∷ 0 ∷ 0 ∷ 0 ∷  -- turns
    []

abbrev pub result_b : List ℕ
result_b =
    2 ∷ 0 ∷ 4 ∷ 0 ∷ 4 ∷ 0 ∷ 0 ∷ 0 ∷ 24 ∷ 0 ∷ 0 ∷ 0 ∷ 56 ∷ 0 ∷ 0 ∷ 0 ∷ 72 ∷ 0 ∷ 0 ∷ 0 ∷ 148 ∷ 0 ∷ 0 ∷ 0 ∷  -- version, m, L, unfinished; offsets of answers, log and charge file; total
    3 ∷ 0 ∷ 9 ∷ 0 ∷ 90 ∷ 0 ∷ 0 ∷ 0 ∷  -- answer 0
    1 ∷ 0 ∷ 2 ∷ 0 ∷ 70 ∷ 0 ∷ 0 ∷ 0 ∷  -- answer 1
    5 ∷ 1 ∷ 6 ∷ 0 ∷ 70 ∷ 0 ∷ 0 ∷ 0 ∷  -- answer 2
    2 ∷ 1 ∷ 3 ∷ 0 ∷ 0 ∷ 0 ∷ 0 ∷ 0 ∷  -- answer 3
    6 ∷ 0 ∷ 1 ∷ 0 ∷ 12 ∷ 0 ∷ 2 ∷ 0 ∷ 15 ∷ 0 ∷ 3 ∷ 0 ∷ 18 ∷ 0 ∷ 0 ∷ 0 ∷  -- log
    2 ∷ 0 ∷ 1 ∷ 2 ∷ 2 ∷ 0 ∷ 2 ∷ 0 ∷ 0 ∷ 0 ∷ 0 ∷ 0 ∷  -- file: version, g, c, P, U, m, turns
    32 ∷ 0 ∷ 0 ∷ 0 ∷ 36 ∷ 0 ∷ 0 ∷ 0 ∷ 76 ∷ 0 ∷ 0 ∷ 0 ∷ 76 ∷ 0 ∷ 0 ∷ 0 ∷ 76 ∷ 0 ∷ 0 ∷ 0 ∷  -- file: offsets of directory, page table, operations and turns; total
    1 ∷ 0 ∷ 2 ∷ 0 ∷  -- file: directory
    1 ∷ 1 ∷ 0 ∷ 0 ∷ 4 ∷ 0 ∷ 0 ∷ 0 ∷ 90 ∷ 0 ∷ 0 ∷ 0 ∷ 0 ∷ 0 ∷ 0 ∷ 0 ∷ 0 ∷ 0 ∷ 0 ∷ 0 ∷  -- file: page 1
    1 ∷ 1 ∷ 1 ∷ 0 ∷ 2 ∷ 0 ∷ 0 ∷ 0 ∷ 50 ∷ 0 ∷ 0 ∷ 0 ∷ 0 ∷ 0 ∷ 0 ∷ 0 ∷ 0 ∷ 0 ∷ 0 ∷ 0 ∷  -- file: page 2
    []

abbrev pub text_b : List ℕ
text_b =
    text "job depth 1 capacity 2 pages 2 operations 4 turns 20\n"
    ++ text "op 0 insert 4 stored 90 turns 9\n"
    ++ text "op 1 search 3 found 70 turns 2\n"
    ++ text "op 2 delete 3 deleted 70 turns 6\n"
    ++ text "op 3 search 3 none 0 turns 3\n"
    ++ text "at 6 op 1\n"
    ++ text "at 12 op 2\n"
    ++ text "at 15 op 3\n"
    ++ text "at 18 op 0\n"
    ++ text "page 1 depth 1 pattern 0 : 4=90\n"
    ++ text "page 2 depth 1 pattern 1 : 2=50\n"

-- job E with other turns: the search of call 3 reads its entry first, and the page only after the insert has moved the call to page 2; then the
-- delete; the last search only begins
abbrev pub job_late : List ℕ
job_late =
    take 116 job_b
    ++ each two (1 ∷ 0 ∷ 0 ∷ 0 ∷ 0 ∷ 0 ∷ 0 ∷ 0 ∷ 0 ∷ 0 ∷ 1 ∷ 1 ∷ 1 ∷ 2 ∷ 2 ∷ 2 ∷ 2 ∷ 2 ∷ 2 ∷ 3 ∷ [])

abbrev pub result_late : List ℕ
result_late =
    2 ∷ 0 ∷ 4 ∷ 0 ∷ 3 ∷ 0 ∷ 1 ∷ 0 ∷ 24 ∷ 0 ∷ 0 ∷ 0 ∷ 56 ∷ 0 ∷ 0 ∷ 0 ∷ 0 ∷ 0 ∷ 0 ∷ 0 ∷ 68 ∷ 0 ∷ 0 ∷ 0 ∷  -- version, m, L, unfinished; offsets of answers, log and charge file; total
    3 ∷ 0 ∷ 9 ∷ 0 ∷ 90 ∷ 0 ∷ 0 ∷ 0 ∷  -- answer 0
    1 ∷ 1 ∷ 4 ∷ 0 ∷ 70 ∷ 0 ∷ 0 ∷ 0 ∷  -- answer 1
    5 ∷ 1 ∷ 6 ∷ 0 ∷ 70 ∷ 0 ∷ 0 ∷ 0 ∷  -- answer 2
    0 ∷ 0 ∷ 1 ∷ 0 ∷ 0 ∷ 0 ∷ 0 ∷ 0 ∷  -- answer 3
    8 ∷ 0 ∷ 0 ∷ 0 ∷ 12 ∷ 0 ∷ 1 ∷ 0 ∷ 17 ∷ 0 ∷ 2 ∷ 0 ∷  -- log
    []

-- a full page 2 with calls 5 and 6, and no other page to be had: call 5 is inserted, 3 deleted, 3 and 1 inserted, and 6 deleted at another charge,
-- one after another
abbrev pub job_rest : List ℕ
job_rest =
    (2 ∷ 0 ∷ 2 ∷ 2 ∷ 2 ∷ 0 ∷ 2 ∷ 0 ∷ 5 ∷ 0 ∷ 25 ∷ 0 ∷  -- version, g, c, P, U, m, turns
    32 ∷ 0 ∷ 0 ∷ 0 ∷ 40 ∷ 0 ∷ 0 ∷ 0 ∷ 80 ∷ 0 ∷ 0 ∷ 0 ∷ 130 ∷ 0 ∷ 0 ∷ 0 ∷ 180 ∷ 0 ∷ 0 ∷ 0 ∷  -- offsets of directory, page table, operations and turns; total
    1 ∷ 0 ∷ 1 ∷ 0 ∷ 2 ∷ 0 ∷ 2 ∷ 0 ∷  -- directory
    1 ∷ 0 ∷ 0 ∷ 0 ∷ 0 ∷ 0 ∷ 0 ∷ 0 ∷ 0 ∷ 0 ∷ 0 ∷ 0 ∷ 0 ∷ 0 ∷ 0 ∷ 0 ∷ 0 ∷ 0 ∷ 0 ∷ 0 ∷  -- page 1
    1 ∷ 2 ∷ 1 ∷ 0 ∷ 5 ∷ 0 ∷ 0 ∷ 0 ∷ 10 ∷ 0 ∷ 0 ∷ 0 ∷ 6 ∷ 0 ∷ 0 ∷ 0 ∷ 20 ∷ 0 ∷ 0 ∷ 0 ∷  -- page 2
    2 ∷ 0 ∷ 5 ∷ 0 ∷ 0 ∷ 0 ∷ 30 ∷ 0 ∷ 0 ∷ 0 ∷  -- operation 0
    3 ∷ 0 ∷ 3 ∷ 0 ∷ 0 ∷ 0 ∷ 0 ∷ 0 ∷ 0 ∷ 0 ∷  -- operation 1
    2 ∷ 0 ∷ 3 ∷ 0 ∷ 0 ∷ 0 ∷ 30 ∷ 0 ∷ 0 ∷ 0 ∷  -- operation 2
    2 ∷ 0 ∷ 1 ∷ 0 ∷ 0 ∷ 0 ∷ 30 ∷ 0 ∷ 0 ∷ 0 ∷  -- operation 3
    3 ∷ 0 ∷ 6 ∷ 0 ∷ 0 ∷ 0 ∷ 30 ∷ 0 ∷ 0 ∷ 0 ∷ [])  -- operation 4
    ++ each (λ (i : ℕ). each two (replicate 5 i)) (0 ∷ 1 ∷ 2 ∷ 3 ∷ 4 ∷ [])  -- turns

abbrev pub result_rest : List ℕ
result_rest =
    (2 ∷ 0 ∷ 5 ∷ 0 ∷ 5 ∷ 0 ∷ 0 ∷ 0 ∷ 24 ∷ 0 ∷ 0 ∷ 0 ∷ 64 ∷ 0 ∷ 0 ∷ 0 ∷ 84 ∷ 0 ∷ 0 ∷ 0 ∷ 164 ∷ 0 ∷ 0 ∷ 0 ∷  -- version, m, L, unfinished; offsets of answers, log and charge file; total
    4 ∷ 1 ∷ 5 ∷ 0 ∷ 10 ∷ 0 ∷ 0 ∷ 0 ∷  -- answer 0
    6 ∷ 1 ∷ 5 ∷ 0 ∷ 0 ∷ 0 ∷ 0 ∷ 0 ∷  -- answer 1
    7 ∷ 1 ∷ 5 ∷ 0 ∷ 0 ∷ 0 ∷ 0 ∷ 0 ∷  -- answer 2
    8 ∷ 1 ∷ 5 ∷ 0 ∷ 0 ∷ 0 ∷ 0 ∷ 0 ∷  -- answer 3
    9 ∷ 1 ∷ 5 ∷ 0 ∷ 20 ∷ 0 ∷ 0 ∷ 0 ∷  -- answer 4
    3 ∷ 0 ∷ 0 ∷ 0 ∷ 8 ∷ 0 ∷ 1 ∷ 0 ∷ 13 ∷ 0 ∷ 2 ∷ 0 ∷ 18 ∷ 0 ∷ 3 ∷ 0 ∷ 23 ∷ 0 ∷ 4 ∷ 0 ∷  -- log
    2 ∷ 0 ∷ 2 ∷ 2 ∷ 2 ∷ 0 ∷ 2 ∷ 0 ∷ 0 ∷ 0 ∷ 0 ∷ 0 ∷  -- file: version, g, c, P, U, m, turns
    32 ∷ 0 ∷ 0 ∷ 0 ∷ 40 ∷ 0 ∷ 0 ∷ 0 ∷ 80 ∷ 0 ∷ 0 ∷ 0 ∷ 80 ∷ 0 ∷ 0 ∷ 0 ∷ 80 ∷ 0 ∷ 0 ∷ 0 ∷ [])  -- file: offsets of directory, page table, operations and turns; total
    ++ take 48 (drop 32 job_rest)  -- file: directory and pages, as they were

-- (C)
abbrev pub job_c : List ℕ
job_c =
    2 ∷ 0 ∷ 2 ∷ 2 ∷ 3 ∷ 0 ∷ 1 ∷ 0 ∷ 1 ∷ 0 ∷ 20 ∷ 0 ∷  -- version, g, c, P, U, m, turns
    32 ∷ 0 ∷ 0 ∷ 0 ∷ 40 ∷ 0 ∷ 0 ∷ 0 ∷ 100 ∷ 0 ∷ 0 ∷ 0 ∷ 110 ∷ 0 ∷ 0 ∷ 0 ∷ 150 ∷ 0 ∷ 0 ∷ 0 ∷  -- offsets of directory, page table, operations and turns; total
    1 ∷ 0 ∷ 1 ∷ 0 ∷ 1 ∷ 0 ∷ 1 ∷ 0 ∷  -- directory
    0 ∷ 2 ∷ 0 ∷ 0 ∷ 1 ∷ 0 ∷ 0 ∷ 0 ∷ 10 ∷ 0 ∷ 0 ∷ 0 ∷ 5 ∷ 0 ∷ 0 ∷ 0 ∷ 20 ∷ 0 ∷ 0 ∷ 0 ∷  -- page 1
    0 ∷ 0 ∷ 0 ∷ 0 ∷ 0 ∷ 0 ∷ 0 ∷ 0 ∷ 0 ∷ 0 ∷ 0 ∷ 0 ∷ 0 ∷ 0 ∷ 0 ∷ 0 ∷ 0 ∷ 0 ∷ 0 ∷ 0 ∷  -- page 2
    0 ∷ 0 ∷ 0 ∷ 0 ∷ 0 ∷ 0 ∷ 0 ∷ 0 ∷ 0 ∷ 0 ∷ 0 ∷ 0 ∷ 0 ∷ 0 ∷ 0 ∷ 0 ∷ 0 ∷ 0 ∷ 0 ∷ 0 ∷  -- page 3
    2 ∷ 0 ∷ 3 ∷ 0 ∷ 0 ∷ 0 ∷ 30 ∷ 0 ∷ 0 ∷ 0 ∷  -- operation 0
    0 ∷ 0 ∷ 0 ∷ 0 ∷ 0 ∷ 0 ∷ 0 ∷ 0 ∷ 0 ∷ 0 ∷ 0 ∷ 0 ∷ 0 ∷ 0 ∷ 0 ∷ 0 ∷ 0 ∷ 0 ∷ 0 ∷ 0 ∷ 0 ∷ 0 ∷ 0 ∷ 0 ∷ 0 ∷ 0 ∷ 0 ∷ 0 ∷ 0 ∷ 0 ∷ 0 ∷ 0 ∷ 0 ∷ 0 ∷ 0 ∷ 0 ∷ 0 ∷ 0 ∷ 0 ∷ 0 ∷  -- turns
    []

abbrev pub result_c : List ℕ
result_c =
    2 ∷ 0 ∷ 1 ∷ 0 ∷ 1 ∷ 0 ∷ 0 ∷ 0 ∷ 24 ∷ 0 ∷ 0 ∷ 0 ∷ 32 ∷ 0 ∷ 0 ∷ 0 ∷ 36 ∷ 0 ∷ 0 ∷ 0 ∷ 136 ∷ 0 ∷ 0 ∷ 0 ∷  -- version, m, L, unfinished; offsets of answers, log and charge file; total
    3 ∷ 1 ∷ 11 ∷ 0 ∷ 30 ∷ 0 ∷ 0 ∷ 0 ∷  -- answer 0
    6 ∷ 0 ∷ 0 ∷ 0 ∷  -- log
    2 ∷ 0 ∷ 2 ∷ 2 ∷ 3 ∷ 0 ∷ 3 ∷ 0 ∷ 0 ∷ 0 ∷ 0 ∷ 0 ∷  -- file: version, g, c, P, U, m, turns
    32 ∷ 0 ∷ 0 ∷ 0 ∷ 40 ∷ 0 ∷ 0 ∷ 0 ∷ 100 ∷ 0 ∷ 0 ∷ 0 ∷ 100 ∷ 0 ∷ 0 ∷ 0 ∷ 100 ∷ 0 ∷ 0 ∷ 0 ∷  -- file: offsets of directory, page table, operations and turns; total
    1 ∷ 0 ∷ 1 ∷ 0 ∷ 2 ∷ 0 ∷ 3 ∷ 0 ∷  -- file: directory
    1 ∷ 0 ∷ 0 ∷ 0 ∷ 0 ∷ 0 ∷ 0 ∷ 0 ∷ 0 ∷ 0 ∷ 0 ∷ 0 ∷ 0 ∷ 0 ∷ 0 ∷ 0 ∷ 0 ∷ 0 ∷ 0 ∷ 0 ∷  -- file: page 1
    2 ∷ 2 ∷ 2 ∷ 0 ∷ 3 ∷ 0 ∷ 0 ∷ 0 ∷ 30 ∷ 0 ∷ 0 ∷ 0 ∷ 5 ∷ 0 ∷ 0 ∷ 0 ∷ 20 ∷ 0 ∷ 0 ∷ 0 ∷  -- file: page 2
    2 ∷ 1 ∷ 3 ∷ 0 ∷ 1 ∷ 0 ∷ 0 ∷ 0 ∷ 10 ∷ 0 ∷ 0 ∷ 0 ∷ 0 ∷ 0 ∷ 0 ∷ 0 ∷ 0 ∷ 0 ∷ 0 ∷ 0 ∷  -- file: page 3
    []

-- (C) with calls 5 and 6 in the page: both begin with the bits 10, as call 3 does
abbrev pub job_deep : List ℕ
job_deep = set (set job_c 44 5) 52 6

abbrev pub result_deep : List ℕ
result_deep =
    (2 ∷ 0 ∷ 1 ∷ 0 ∷ 1 ∷ 0 ∷ 0 ∷ 0 ∷ 24 ∷ 0 ∷ 0 ∷ 0 ∷ 32 ∷ 0 ∷ 0 ∷ 0 ∷ 36 ∷ 0 ∷ 0 ∷ 0 ∷ 136 ∷ 0 ∷ 0 ∷ 0 ∷  -- version, m, L, unfinished; offsets of answers, log and charge file; total
    7 ∷ 0 ∷ 5 ∷ 0 ∷ 0 ∷ 0 ∷ 0 ∷ 0 ∷  -- answer 0
    3 ∷ 0 ∷ 0 ∷ 0 ∷  -- log
    2 ∷ 0 ∷ 2 ∷ 2 ∷ 3 ∷ 0 ∷ 1 ∷ 0 ∷ 0 ∷ 0 ∷ 0 ∷ 0 ∷  -- file: version, g, c, P, U, m, turns
    32 ∷ 0 ∷ 0 ∷ 0 ∷ 40 ∷ 0 ∷ 0 ∷ 0 ∷ 100 ∷ 0 ∷ 0 ∷ 0 ∷ 100 ∷ 0 ∷ 0 ∷ 0 ∷ 100 ∷ 0 ∷ 0 ∷ 0 ∷ [])  -- file: offsets of directory, page table, operations and turns; total
    ++ take 68 (drop 32 job_deep)  -- file: directory and pages, as they were

-- a full page of three records with calls 1, 4 and 5; call 3 is inserted. Calls 1 and 5 go to the new page, and call 3 between them
abbrev pub job_rising : List ℕ
job_rising =
    2 ∷ 0 ∷ 1 ∷ 3 ∷ 2 ∷ 0 ∷ 1 ∷ 0 ∷ 1 ∷ 0 ∷ 9 ∷ 0 ∷  -- version, g, c, P, U, m, turns
    32 ∷ 0 ∷ 0 ∷ 0 ∷ 36 ∷ 0 ∷ 0 ∷ 0 ∷ 92 ∷ 0 ∷ 0 ∷ 0 ∷ 102 ∷ 0 ∷ 0 ∷ 0 ∷ 120 ∷ 0 ∷ 0 ∷ 0 ∷  -- offsets of directory, page table, operations and turns; total
    1 ∷ 0 ∷ 1 ∷ 0 ∷  -- directory
    0 ∷ 3 ∷ 0 ∷ 0 ∷ 1 ∷ 0 ∷ 0 ∷ 0 ∷ 10 ∷ 0 ∷ 0 ∷ 0 ∷ 4 ∷ 0 ∷ 0 ∷ 0 ∷ 40 ∷ 0 ∷ 0 ∷ 0 ∷ 5 ∷ 0 ∷ 0 ∷ 0 ∷ 20 ∷ 0 ∷ 0 ∷ 0 ∷  -- page 1
    0 ∷ 0 ∷ 0 ∷ 0 ∷ 0 ∷ 0 ∷ 0 ∷ 0 ∷ 0 ∷ 0 ∷ 0 ∷ 0 ∷ 0 ∷ 0 ∷ 0 ∷ 0 ∷ 0 ∷ 0 ∷ 0 ∷ 0 ∷ 0 ∷ 0 ∷ 0 ∷ 0 ∷ 0 ∷ 0 ∷ 0 ∷ 0 ∷  -- page 2
    2 ∷ 0 ∷ 3 ∷ 0 ∷ 0 ∷ 0 ∷ 30 ∷ 0 ∷ 0 ∷ 0 ∷  -- operation 0
    0 ∷ 0 ∷ 0 ∷ 0 ∷ 0 ∷ 0 ∷ 0 ∷ 0 ∷ 0 ∷ 0 ∷ 0 ∷ 0 ∷ 0 ∷ 0 ∷ 0 ∷ 0 ∷ 0 ∷ 0 ∷  -- turns
    []

abbrev pub result_rising : List ℕ
result_rising =
    2 ∷ 0 ∷ 1 ∷ 0 ∷ 1 ∷ 0 ∷ 0 ∷ 0 ∷ 24 ∷ 0 ∷ 0 ∷ 0 ∷ 32 ∷ 0 ∷ 0 ∷ 0 ∷ 36 ∷ 0 ∷ 0 ∷ 0 ∷ 128 ∷ 0 ∷ 0 ∷ 0 ∷  -- version, m, L, unfinished; offsets of answers, log and charge file; total
    3 ∷ 1 ∷ 9 ∷ 0 ∷ 30 ∷ 0 ∷ 0 ∷ 0 ∷  -- answer 0
    5 ∷ 0 ∷ 0 ∷ 0 ∷  -- log
    2 ∷ 0 ∷ 1 ∷ 3 ∷ 2 ∷ 0 ∷ 2 ∷ 0 ∷ 0 ∷ 0 ∷ 0 ∷ 0 ∷  -- file: version, g, c, P, U, m, turns
    32 ∷ 0 ∷ 0 ∷ 0 ∷ 36 ∷ 0 ∷ 0 ∷ 0 ∷ 92 ∷ 0 ∷ 0 ∷ 0 ∷ 92 ∷ 0 ∷ 0 ∷ 0 ∷ 92 ∷ 0 ∷ 0 ∷ 0 ∷  -- file: offsets of directory, page table, operations and turns; total
    1 ∷ 0 ∷ 2 ∷ 0 ∷  -- file: directory
    1 ∷ 1 ∷ 0 ∷ 0 ∷ 4 ∷ 0 ∷ 0 ∷ 0 ∷ 40 ∷ 0 ∷ 0 ∷ 0 ∷ 0 ∷ 0 ∷ 0 ∷ 0 ∷ 0 ∷ 0 ∷ 0 ∷ 0 ∷ 0 ∷ 0 ∷ 0 ∷ 0 ∷ 0 ∷ 0 ∷ 0 ∷ 0 ∷  -- file: page 1
    1 ∷ 3 ∷ 1 ∷ 0 ∷ 1 ∷ 0 ∷ 0 ∷ 0 ∷ 10 ∷ 0 ∷ 0 ∷ 0 ∷ 3 ∷ 0 ∷ 0 ∷ 0 ∷ 30 ∷ 0 ∷ 0 ∷ 0 ∷ 5 ∷ 0 ∷ 0 ∷ 0 ∷ 20 ∷ 0 ∷ 0 ∷ 0 ∷  -- file: page 2
    []

-- a page with room for three records, which has calls 1 and 5; this call is inserted
abbrev pub job_put : ℕ → List ℕ
job_put call =
    2 ∷ 0 ∷ 0 ∷ 3 ∷ 1 ∷ 0 ∷ 1 ∷ 0 ∷ 1 ∷ 0 ∷ 6 ∷ 0 ∷  -- version, g, c, P, U, m, turns
    32 ∷ 0 ∷ 0 ∷ 0 ∷ 34 ∷ 0 ∷ 0 ∷ 0 ∷ 62 ∷ 0 ∷ 0 ∷ 0 ∷ 72 ∷ 0 ∷ 0 ∷ 0 ∷ 84 ∷ 0 ∷ 0 ∷ 0 ∷  -- offsets of directory, page table, operations and turns; total
    1 ∷ 0 ∷  -- directory
    0 ∷ 2 ∷ 0 ∷ 0 ∷ 1 ∷ 0 ∷ 0 ∷ 0 ∷ 10 ∷ 0 ∷ 0 ∷ 0 ∷ 5 ∷ 0 ∷ 0 ∷ 0 ∷ 20 ∷ 0 ∷ 0 ∷ 0 ∷ 0 ∷ 0 ∷ 0 ∷ 0 ∷ 0 ∷ 0 ∷ 0 ∷ 0 ∷  -- page 1
    2 ∷ 0 ∷ call ∷ 0 ∷ 0 ∷ 0 ∷ 30 ∷ 0 ∷ 0 ∷ 0 ∷  -- operation 0
    0 ∷ 0 ∷ 0 ∷ 0 ∷ 0 ∷ 0 ∷ 0 ∷ 0 ∷ 0 ∷ 0 ∷ 0 ∷ 0 ∷  -- turns
    []

-- its result, with these calls and charges in the page
abbrev pub result_put : List ℕ → List ℕ
result_put records =
    (2 ∷ 0 ∷ 1 ∷ 0 ∷ 1 ∷ 0 ∷ 0 ∷ 0 ∷ 24 ∷ 0 ∷ 0 ∷ 0 ∷ 32 ∷ 0 ∷ 0 ∷ 0 ∷ 36 ∷ 0 ∷ 0 ∷ 0 ∷ 98 ∷ 0 ∷ 0 ∷ 0 ∷  -- version, m, L, unfinished; offsets of answers, log and charge file; total
    3 ∷ 0 ∷ 6 ∷ 0 ∷ 30 ∷ 0 ∷ 0 ∷ 0 ∷  -- answer 0
    4 ∷ 0 ∷ 0 ∷ 0 ∷  -- log
    2 ∷ 0 ∷ 0 ∷ 3 ∷ 1 ∷ 0 ∷ 1 ∷ 0 ∷ 0 ∷ 0 ∷ 0 ∷ 0 ∷  -- file: version, g, c, P, U, m, turns
    32 ∷ 0 ∷ 0 ∷ 0 ∷ 34 ∷ 0 ∷ 0 ∷ 0 ∷ 62 ∷ 0 ∷ 0 ∷ 0 ∷ 62 ∷ 0 ∷ 0 ∷ 0 ∷ 62 ∷ 0 ∷ 0 ∷ 0 ∷  -- file: offsets of directory, page table, operations and turns; total
    1 ∷ 0 ∷  -- file: directory
    0 ∷ 3 ∷ 0 ∷ 0 ∷ [])
    ++ each four records

-- the same page, full, with call 9 too; call 5 is deleted
abbrev pub job_taken : List ℕ
job_taken = set (set (set (set (set (job_put 5) 35 3) 54 9) 58 30) 62 3) 68 0

abbrev pub result_taken : List ℕ
result_taken = set (set (set (result_put (1 ∷ 10 ∷ 9 ∷ 30 ∷ 0 ∷ 0 ∷ [])) 24 5) 28 20) 71 2

-- a page with call 5 at the charge `held`, and a delete of `call` with the charge `asked`
abbrev pub job_strike : ℕ → ℕ → ℕ → List ℕ
job_strike held call asked =
    (2 ∷ 0 ∷ 0 ∷ 1 ∷ 1 ∷ 0 ∷ 1 ∷ 0 ∷ 1 ∷ 0 ∷ 6 ∷ 0 ∷  -- version, g, c, P, U, m, turns
    32 ∷ 0 ∷ 0 ∷ 0 ∷ 34 ∷ 0 ∷ 0 ∷ 0 ∷ 46 ∷ 0 ∷ 0 ∷ 0 ∷ 56 ∷ 0 ∷ 0 ∷ 0 ∷ 68 ∷ 0 ∷ 0 ∷ 0 ∷  -- offsets of directory, page table, operations and turns; total
    1 ∷ 0 ∷  -- directory
    0 ∷ 1 ∷ 0 ∷ 0 ∷ []) ++ four 5 ++ four held  -- page 1
    ++ (3 ∷ 0 ∷ []) ++ four call ++ four asked  -- operation 0
    ++ each two (replicate 6 0)  -- turns

-- its result: the answer's code and charge, turns used, moment, and page 1
abbrev pub result_strike : ℕ → ℕ → ℕ → ℕ → List ℕ → List ℕ
result_strike code charge used moment page =
    (2 ∷ 0 ∷ 1 ∷ 0 ∷ 1 ∷ 0 ∷ 0 ∷ 0 ∷ 24 ∷ 0 ∷ 0 ∷ 0 ∷ 32 ∷ 0 ∷ 0 ∷ 0 ∷ 36 ∷ 0 ∷ 0 ∷ 0 ∷ 82 ∷ 0 ∷ 0 ∷ 0 ∷  -- version, m, L, unfinished; offsets of answers, log and charge file; total
    code ∷ 0 ∷ used ∷ 0 ∷ []) ++ four charge  -- answer 0
    ++ (moment ∷ 0 ∷ 0 ∷ 0 ∷  -- log
    2 ∷ 0 ∷ 0 ∷ 1 ∷ 1 ∷ 0 ∷ 1 ∷ 0 ∷ 0 ∷ 0 ∷ 0 ∷ 0 ∷  -- file: version, g, c, P, U, m, turns
    32 ∷ 0 ∷ 0 ∷ 0 ∷ 34 ∷ 0 ∷ 0 ∷ 0 ∷ 46 ∷ 0 ∷ 0 ∷ 0 ∷ 46 ∷ 0 ∷ 0 ∷ 0 ∷ 46 ∷ 0 ∷ 0 ∷ 0 ∷  -- file: offsets of directory, page table, operations and turns; total
    1 ∷ 0 ∷ [])  -- file: directory
    ++ page

-- struck out on the page's writing; and left as it is, with this answer, on turn (d)
abbrev pub result_struck : ℕ → List ℕ
result_struck held = result_strike 5 held 6 4 (replicate 12 0)

abbrev pub result_left : ℕ → ℕ → ℕ → List ℕ
result_left held code charge = result_strike code charge 5 3 ((0 ∷ 1 ∷ 0 ∷ 0 ∷ []) ++ four 5 ++ four held)

-- two bursars strike out call 5, which is there at 250: one saw 180, the other, who has to wait for the page, 250
abbrev pub job_bursars : List ℕ
job_bursars =
    (2 ∷ 0 ∷ 0 ∷ 1 ∷ 1 ∷ 0 ∷ 1 ∷ 0 ∷ 2 ∷ 0 ∷ 12 ∷ 0 ∷  -- version, g, c, P, U, m, turns
    32 ∷ 0 ∷ 0 ∷ 0 ∷ 34 ∷ 0 ∷ 0 ∷ 0 ∷ 46 ∷ 0 ∷ 0 ∷ 0 ∷ 66 ∷ 0 ∷ 0 ∷ 0 ∷ 90 ∷ 0 ∷ 0 ∷ 0 ∷  -- offsets of directory, page table, operations and turns; total
    1 ∷ 0 ∷  -- directory
    0 ∷ 1 ∷ 0 ∷ 0 ∷ 5 ∷ 0 ∷ 0 ∷ 0 ∷ 250 ∷ 0 ∷ 0 ∷ 0 ∷  -- page 1
    3 ∷ 0 ∷ 5 ∷ 0 ∷ 0 ∷ 0 ∷ 180 ∷ 0 ∷ 0 ∷ 0 ∷  -- operation 0
    3 ∷ 0 ∷ 5 ∷ 0 ∷ 0 ∷ 0 ∷ 250 ∷ 0 ∷ 0 ∷ 0 ∷ [])  -- operation 1
    ++ each two (0 ∷ 1 ∷ 0 ∷ 1 ∷ 0 ∷ 0 ∷ 0 ∷ 1 ∷ 1 ∷ 1 ∷ 1 ∷ 1 ∷ [])  -- turns

abbrev pub text_bursars : List ℕ
text_bursars =
    text "job depth 0 capacity 1 pages 1 operations 2 turns 12\n"
    ++ text "op 0 delete 5 differs 250 turns 5\n"
    ++ text "op 1 delete 5 deleted 250 turns 6\n"
    ++ text "at 5 op 0\n"
    ++ text "at 10 op 1\n"
    ++ text "page 1 depth 0 pattern 0 :\n"

-- (D), (E2), (F): (C) with two pages; the three differ in the call that is inserted
abbrev pub job_d : List ℕ
job_d =
    2 ∷ 0 ∷ 2 ∷ 2 ∷ 2 ∷ 0 ∷ 1 ∷ 0 ∷ 1 ∷ 0 ∷ 20 ∷ 0 ∷  -- version, g, c, P, U, m, turns
    32 ∷ 0 ∷ 0 ∷ 0 ∷ 40 ∷ 0 ∷ 0 ∷ 0 ∷ 80 ∷ 0 ∷ 0 ∷ 0 ∷ 90 ∷ 0 ∷ 0 ∷ 0 ∷ 130 ∷ 0 ∷ 0 ∷ 0 ∷  -- offsets of directory, page table, operations and turns; total
    1 ∷ 0 ∷ 1 ∷ 0 ∷ 1 ∷ 0 ∷ 1 ∷ 0 ∷  -- directory
    0 ∷ 2 ∷ 0 ∷ 0 ∷ 1 ∷ 0 ∷ 0 ∷ 0 ∷ 10 ∷ 0 ∷ 0 ∷ 0 ∷ 5 ∷ 0 ∷ 0 ∷ 0 ∷ 20 ∷ 0 ∷ 0 ∷ 0 ∷  -- page 1
    0 ∷ 0 ∷ 0 ∷ 0 ∷ 0 ∷ 0 ∷ 0 ∷ 0 ∷ 0 ∷ 0 ∷ 0 ∷ 0 ∷ 0 ∷ 0 ∷ 0 ∷ 0 ∷ 0 ∷ 0 ∷ 0 ∷ 0 ∷  -- page 2
    2 ∷ 0 ∷ 3 ∷ 0 ∷ 0 ∷ 0 ∷ 30 ∷ 0 ∷ 0 ∷ 0 ∷  -- operation 0
    0 ∷ 0 ∷ 0 ∷ 0 ∷ 0 ∷ 0 ∷ 0 ∷ 0 ∷ 0 ∷ 0 ∷ 0 ∷ 0 ∷ 0 ∷ 0 ∷ 0 ∷ 0 ∷ 0 ∷ 0 ∷ 0 ∷ 0 ∷ 0 ∷ 0 ∷ 0 ∷ 0 ∷ 0 ∷ 0 ∷ 0 ∷ 0 ∷ 0 ∷ 0 ∷ 0 ∷ 0 ∷ 0 ∷ 0 ∷ 0 ∷ 0 ∷ 0 ∷ 0 ∷ 0 ∷ 0 ∷  -- turns
    []

abbrev pub job_insert : ℕ → List ℕ
job_insert call = set job_d 82 call

-- the result of (D) and (F), but for code and charge
abbrev pub result_d : ℕ → ℕ → List ℕ
result_d code charge =
    2 ∷ 0 ∷ 1 ∷ 0 ∷ 1 ∷ 0 ∷ 0 ∷ 0 ∷ 24 ∷ 0 ∷ 0 ∷ 0 ∷ 32 ∷ 0 ∷ 0 ∷ 0 ∷ 36 ∷ 0 ∷ 0 ∷ 0 ∷ 116 ∷ 0 ∷ 0 ∷ 0 ∷  -- version, m, L, unfinished; offsets of answers, log and charge file; total
    code ∷ 0 ∷ 5 ∷ 0 ∷ charge ∷ 0 ∷ 0 ∷ 0 ∷  -- answer 0
    3 ∷ 0 ∷ 0 ∷ 0 ∷  -- log
    2 ∷ 0 ∷ 2 ∷ 2 ∷ 2 ∷ 0 ∷ 1 ∷ 0 ∷ 0 ∷ 0 ∷ 0 ∷ 0 ∷  -- file: version, g, c, P, U, m, turns
    32 ∷ 0 ∷ 0 ∷ 0 ∷ 40 ∷ 0 ∷ 0 ∷ 0 ∷ 80 ∷ 0 ∷ 0 ∷ 0 ∷ 80 ∷ 0 ∷ 0 ∷ 0 ∷ 80 ∷ 0 ∷ 0 ∷ 0 ∷  -- file: offsets of directory, page table, operations and turns; total
    1 ∷ 0 ∷ 1 ∷ 0 ∷ 1 ∷ 0 ∷ 1 ∷ 0 ∷  -- file: directory
    0 ∷ 2 ∷ 0 ∷ 0 ∷ 1 ∷ 0 ∷ 0 ∷ 0 ∷ 10 ∷ 0 ∷ 0 ∷ 0 ∷ 5 ∷ 0 ∷ 0 ∷ 0 ∷ 20 ∷ 0 ∷ 0 ∷ 0 ∷  -- file: page 1
    0 ∷ 0 ∷ 0 ∷ 0 ∷ 0 ∷ 0 ∷ 0 ∷ 0 ∷ 0 ∷ 0 ∷ 0 ∷ 0 ∷ 0 ∷ 0 ∷ 0 ∷ 0 ∷ 0 ∷ 0 ∷ 0 ∷ 0 ∷  -- file: page 2
    []

-- (E2): the call stays in page 1, which gives up both of its records
abbrev pub result_e2 : List ℕ
result_e2 =
    2 ∷ 0 ∷ 1 ∷ 0 ∷ 1 ∷ 0 ∷ 0 ∷ 0 ∷ 24 ∷ 0 ∷ 0 ∷ 0 ∷ 32 ∷ 0 ∷ 0 ∷ 0 ∷ 36 ∷ 0 ∷ 0 ∷ 0 ∷ 116 ∷ 0 ∷ 0 ∷ 0 ∷  -- version, m, L, unfinished; offsets of answers, log and charge file; total
    3 ∷ 0 ∷ 10 ∷ 0 ∷ 30 ∷ 0 ∷ 0 ∷ 0 ∷  -- answer 0
    8 ∷ 0 ∷ 0 ∷ 0 ∷  -- log
    2 ∷ 0 ∷ 2 ∷ 2 ∷ 2 ∷ 0 ∷ 2 ∷ 0 ∷ 0 ∷ 0 ∷ 0 ∷ 0 ∷  -- file: version, g, c, P, U, m, turns
    32 ∷ 0 ∷ 0 ∷ 0 ∷ 40 ∷ 0 ∷ 0 ∷ 0 ∷ 80 ∷ 0 ∷ 0 ∷ 0 ∷ 80 ∷ 0 ∷ 0 ∷ 0 ∷ 80 ∷ 0 ∷ 0 ∷ 0 ∷  -- file: offsets of directory, page table, operations and turns; total
    1 ∷ 0 ∷ 1 ∷ 0 ∷ 2 ∷ 0 ∷ 2 ∷ 0 ∷  -- file: directory
    1 ∷ 1 ∷ 0 ∷ 0 ∷ 9 ∷ 0 ∷ 0 ∷ 0 ∷ 30 ∷ 0 ∷ 0 ∷ 0 ∷ 0 ∷ 0 ∷ 0 ∷ 0 ∷ 0 ∷ 0 ∷ 0 ∷ 0 ∷  -- file: page 1
    1 ∷ 2 ∷ 1 ∷ 0 ∷ 1 ∷ 0 ∷ 0 ∷ 0 ∷ 10 ∷ 0 ∷ 0 ∷ 0 ∷ 5 ∷ 0 ∷ 0 ∷ 0 ∷ 20 ∷ 0 ∷ 0 ∷ 0 ∷  -- file: page 2
    []

-- (G) job E cut to 7 turns
abbrev pub job_g : List ℕ
job_g =
    2 ∷ 0 ∷ 1 ∷ 2 ∷ 2 ∷ 0 ∷ 1 ∷ 0 ∷ 4 ∷ 0 ∷ 7 ∷ 0 ∷  -- version, g, c, P, U, m, turns
    32 ∷ 0 ∷ 0 ∷ 0 ∷ 36 ∷ 0 ∷ 0 ∷ 0 ∷ 76 ∷ 0 ∷ 0 ∷ 0 ∷ 116 ∷ 0 ∷ 0 ∷ 0 ∷ 130 ∷ 0 ∷ 0 ∷ 0 ∷  -- offsets of directory, page table, operations and turns; total
    1 ∷ 0 ∷ 1 ∷ 0 ∷  -- directory
    0 ∷ 2 ∷ 0 ∷ 0 ∷ 2 ∷ 0 ∷ 0 ∷ 0 ∷ 50 ∷ 0 ∷ 0 ∷ 0 ∷ 3 ∷ 0 ∷ 0 ∷ 0 ∷ 70 ∷ 0 ∷ 0 ∷ 0 ∷  -- page 1
    0 ∷ 0 ∷ 0 ∷ 0 ∷ 0 ∷ 0 ∷ 0 ∷ 0 ∷ 0 ∷ 0 ∷ 0 ∷ 0 ∷ 0 ∷ 0 ∷ 0 ∷ 0 ∷ 0 ∷ 0 ∷ 0 ∷ 0 ∷  -- page 2
    2 ∷ 0 ∷ 4 ∷ 0 ∷ 0 ∷ 0 ∷ 90 ∷ 0 ∷ 0 ∷ 0 ∷  -- operation 0
    1 ∷ 0 ∷ 3 ∷ 0 ∷ 0 ∷ 0 ∷ 0 ∷ 0 ∷ 0 ∷ 0 ∷  -- operation 1
    3 ∷ 0 ∷ 3 ∷ 0 ∷ 0 ∷ 0 ∷ 0 ∷ 0 ∷ 0 ∷ 0 ∷  -- operation 2
    1 ∷ 0 ∷ 3 ∷ 0 ∷ 0 ∷ 0 ∷ 0 ∷ 0 ∷ 0 ∷ 0 ∷  -- operation 3
    1 ∷ 0 ∷ 0 ∷ 0 ∷ 0 ∷ 0 ∷ 0 ∷ 0 ∷ 0 ∷ 0 ∷ 0 ∷ 0 ∷ 0 ∷ 0 ∷  -- turns
    []

abbrev pub result_g : List ℕ
result_g =
    2 ∷ 0 ∷ 4 ∷ 0 ∷ 0 ∷ 0 ∷ 2 ∷ 0 ∷ 24 ∷ 0 ∷ 0 ∷ 0 ∷ 56 ∷ 0 ∷ 0 ∷ 0 ∷ 0 ∷ 0 ∷ 0 ∷ 0 ∷ 56 ∷ 0 ∷ 0 ∷ 0 ∷  -- version, m, L, unfinished; offsets of answers, log and charge file; total
    0 ∷ 0 ∷ 6 ∷ 0 ∷ 0 ∷ 0 ∷ 0 ∷ 0 ∷  -- answer 0
    0 ∷ 0 ∷ 1 ∷ 0 ∷ 0 ∷ 0 ∷ 0 ∷ 0 ∷  -- answer 1
    0 ∷ 0 ∷ 0 ∷ 0 ∷ 0 ∷ 0 ∷ 0 ∷ 0 ∷  -- answer 2
    0 ∷ 0 ∷ 0 ∷ 0 ∷ 0 ∷ 0 ∷ 0 ∷ 0 ∷  -- answer 3
    []

-- (H) no turns
abbrev pub job_h : List ℕ
job_h =
    2 ∷ 0 ∷ 1 ∷ 2 ∷ 2 ∷ 0 ∷ 1 ∷ 0 ∷ 4 ∷ 0 ∷ 0 ∷ 0 ∷  -- version, g, c, P, U, m, turns
    32 ∷ 0 ∷ 0 ∷ 0 ∷ 36 ∷ 0 ∷ 0 ∷ 0 ∷ 76 ∷ 0 ∷ 0 ∷ 0 ∷ 116 ∷ 0 ∷ 0 ∷ 0 ∷ 116 ∷ 0 ∷ 0 ∷ 0 ∷  -- offsets of directory, page table, operations and turns; total
    1 ∷ 0 ∷ 1 ∷ 0 ∷  -- directory
    0 ∷ 2 ∷ 0 ∷ 0 ∷ 2 ∷ 0 ∷ 0 ∷ 0 ∷ 50 ∷ 0 ∷ 0 ∷ 0 ∷ 3 ∷ 0 ∷ 0 ∷ 0 ∷ 70 ∷ 0 ∷ 0 ∷ 0 ∷  -- page 1
    0 ∷ 0 ∷ 0 ∷ 0 ∷ 0 ∷ 0 ∷ 0 ∷ 0 ∷ 0 ∷ 0 ∷ 0 ∷ 0 ∷ 0 ∷ 0 ∷ 0 ∷ 0 ∷ 0 ∷ 0 ∷ 0 ∷ 0 ∷  -- page 2
    2 ∷ 0 ∷ 4 ∷ 0 ∷ 0 ∷ 0 ∷ 90 ∷ 0 ∷ 0 ∷ 0 ∷  -- operation 0
    1 ∷ 0 ∷ 3 ∷ 0 ∷ 0 ∷ 0 ∷ 0 ∷ 0 ∷ 0 ∷ 0 ∷  -- operation 1
    3 ∷ 0 ∷ 3 ∷ 0 ∷ 0 ∷ 0 ∷ 0 ∷ 0 ∷ 0 ∷ 0 ∷  -- operation 2
    1 ∷ 0 ∷ 3 ∷ 0 ∷ 0 ∷ 0 ∷ 0 ∷ 0 ∷ 0 ∷ 0 ∷  -- operation 3
    []

abbrev pub result_h : List ℕ
result_h =
    2 ∷ 0 ∷ 4 ∷ 0 ∷ 0 ∷ 0 ∷ 0 ∷ 0 ∷ 24 ∷ 0 ∷ 0 ∷ 0 ∷ 56 ∷ 0 ∷ 0 ∷ 0 ∷ 56 ∷ 0 ∷ 0 ∷ 0 ∷ 132 ∷ 0 ∷ 0 ∷ 0 ∷  -- version, m, L, unfinished; offsets of answers, log and charge file; total
    0 ∷ 0 ∷ 0 ∷ 0 ∷ 0 ∷ 0 ∷ 0 ∷ 0 ∷  -- answer 0
    0 ∷ 0 ∷ 0 ∷ 0 ∷ 0 ∷ 0 ∷ 0 ∷ 0 ∷  -- answer 1
    0 ∷ 0 ∷ 0 ∷ 0 ∷ 0 ∷ 0 ∷ 0 ∷ 0 ∷  -- answer 2
    0 ∷ 0 ∷ 0 ∷ 0 ∷ 0 ∷ 0 ∷ 0 ∷ 0 ∷  -- answer 3
    2 ∷ 0 ∷ 1 ∷ 2 ∷ 2 ∷ 0 ∷ 1 ∷ 0 ∷ 0 ∷ 0 ∷ 0 ∷ 0 ∷  -- file: version, g, c, P, U, m, turns
    32 ∷ 0 ∷ 0 ∷ 0 ∷ 36 ∷ 0 ∷ 0 ∷ 0 ∷ 76 ∷ 0 ∷ 0 ∷ 0 ∷ 76 ∷ 0 ∷ 0 ∷ 0 ∷ 76 ∷ 0 ∷ 0 ∷ 0 ∷  -- file: offsets of directory, page table, operations and turns; total
    1 ∷ 0 ∷ 1 ∷ 0 ∷  -- file: directory
    0 ∷ 2 ∷ 0 ∷ 0 ∷ 2 ∷ 0 ∷ 0 ∷ 0 ∷ 50 ∷ 0 ∷ 0 ∷ 0 ∷ 3 ∷ 0 ∷ 0 ∷ 0 ∷ 70 ∷ 0 ∷ 0 ∷ 0 ∷  -- file: page 1
    0 ∷ 0 ∷ 0 ∷ 0 ∷ 0 ∷ 0 ∷ 0 ∷ 0 ∷ 0 ∷ 0 ∷ 0 ∷ 0 ∷ 0 ∷ 0 ∷ 0 ∷ 0 ∷ 0 ∷ 0 ∷ 0 ∷ 0 ∷  -- file: page 2
    []

-- (I) a charge file of this depth, and with the offsets of depth 8
abbrev pub job_i : ℕ → List ℕ
job_i g =
    (2 ∷ 0 ∷ g ∷ 1 ∷ 1 ∷ 0 ∷ 1 ∷ 0 ∷ 0 ∷ 0 ∷ 0 ∷ 0 ∷  -- version, g, c, P, U, m, turns
    32 ∷ 0 ∷ 0 ∷ 0 ∷ 32 ∷ 2 ∷ 0 ∷ 0 ∷ 44 ∷ 2 ∷ 0 ∷ 0 ∷ 44 ∷ 2 ∷ 0 ∷ 0 ∷ 44 ∷ 2 ∷ 0 ∷ 0 ∷ [])  -- offsets of directory, page table, operations and turns; total
    ++ each two (replicate 256 1)
    ++ (0 ∷ 1 ∷ 0 ∷ 0 ∷ 7 ∷ 0 ∷ 0 ∷ 0 ∷ 7 ∷ 0 ∷ 0 ∷ 0 ∷ [])

-- its result: itself behind a header
abbrev pub result_i : List ℕ
result_i = (2 ∷ 0 ∷ 0 ∷ 0 ∷ 0 ∷ 0 ∷ 0 ∷ 0 ∷ 24 ∷ 0 ∷ 0 ∷ 0 ∷ 24 ∷ 0 ∷ 0 ∷ 0 ∷ 24 ∷ 0 ∷ 0 ∷ 0 ∷ 68 ∷ 2 ∷ 0 ∷ 0 ∷ []) ++ job_i 8

-- job E with its turns a hundred times over, 2,000 in all: they are finished after the first twenty
abbrev pub job_long : List ℕ
job_long = take 116 (set (set (set (set job_b 10 208) 11 7) 28 20) 29 16) ++ each (λ (n : ℕ). drop 116 job_b) (replicate 100 0)

-- (J) job E with another operation for its first turn, m or m - 1
abbrev pub job_j : ℕ → List ℕ
job_j i = set job_b 116 i

abbrev pub result_j : List ℕ
result_j =
    2 ∷ 0 ∷ 4 ∷ 0 ∷ 3 ∷ 0 ∷ 1 ∷ 0 ∷ 24 ∷ 0 ∷ 0 ∷ 0 ∷ 56 ∷ 0 ∷ 0 ∷ 0 ∷ 0 ∷ 0 ∷ 0 ∷ 0 ∷ 68 ∷ 0 ∷ 0 ∷ 0 ∷  -- version, m, L, unfinished; offsets of answers, log and charge file; total
    3 ∷ 0 ∷ 9 ∷ 0 ∷ 90 ∷ 0 ∷ 0 ∷ 0 ∷  -- answer 0
    0 ∷ 0 ∷ 1 ∷ 0 ∷ 0 ∷ 0 ∷ 0 ∷ 0 ∷  -- answer 1
    5 ∷ 1 ∷ 6 ∷ 0 ∷ 70 ∷ 0 ∷ 0 ∷ 0 ∷  -- answer 2
    1 ∷ 0 ∷ 2 ∷ 0 ∷ 70 ∷ 0 ∷ 0 ∷ 0 ∷  -- answer 3
    6 ∷ 0 ∷ 3 ∷ 0 ∷ 12 ∷ 0 ∷ 2 ∷ 0 ∷ 18 ∷ 0 ∷ 0 ∷ 0 ∷  -- log
    []
