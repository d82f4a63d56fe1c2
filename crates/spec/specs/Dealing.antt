-- Dealing by computation: jobs with the list dealt for them, byte for byte, with what is lent afterwards; and each refusal with those that come before
-- and after it.
use Rattle.std.specs.Prelude.{ℕ, ◌≡◌, refl, List, [], ◌∷◌, ◌++◌, map, set, take, drop, replicate}
use Rattle.spec.specs.Basics.{each}
use Rattle.spec.specs.Bytes.{two}
use Rattle.spec.specs.Check.{Lent}
use Rattle.spec.specs.Deal.{deal_outcome, deal_buffer, deal_rows, deal_work}
use Rattle.spec.specs.Worked.{job_b, result_b, job_h, job_j}
use Rattle.spec.specs.Outcome.{Outcome, done, refused}
use Rattle.spec.specs.Opened.{opened}

-- (H), job E without its turns, with the list of 22 turns that is dealt for it: operation 2 is passed over while operation 0 holds page 1
abbrev dealt_h : List ℕ
dealt_h =
    (2 ∷ 0 ∷ 1 ∷ 2 ∷ 2 ∷ 0 ∷ 1 ∷ 0 ∷ 4 ∷ 0 ∷ 22 ∷ 0 ∷  -- version, g, c, P, U, m, turns
    32 ∷ 0 ∷ 0 ∷ 0 ∷ 36 ∷ 0 ∷ 0 ∷ 0 ∷ 76 ∷ 0 ∷ 0 ∷ 0 ∷ 116 ∷ 0 ∷ 0 ∷ 0 ∷ 160 ∷ 0 ∷ 0 ∷ 0 ∷ [])  -- offsets of directory, page table, operations and turns; total
    ++ drop 32 job_h  -- directory, pages and operations, as they were
    ++ each two (0 ∷ 1 ∷ 2 ∷ 3 ∷ 0 ∷ 1 ∷ 3 ∷ 0 ∷ 0 ∷ 0 ∷ 0 ∷ 0 ∷ 0 ∷ 0 ∷ 2 ∷ 2 ∷ 2 ∷ 2 ∷ 2 ∷ 2 ∷ 2 ∷ 2 ∷ [])

-- the charge file of job E, 76 bytes: it has no operations
abbrev file_b : List ℕ
file_b = drop 72 result_b

abbrev lend : ℕ → ℕ → ℕ → Lent
lend output rows work = record { output = output; rows = rows; work = work }

-- What a call comes to, by the job and what is lent. Job E without its turns has 116 bytes and 4 operations, so it takes 20,592 bytes, 4 rows and 24,576
-- bytes; its charge file, which has no operations, 20,552 bytes and no row.
record Item : Type 0 where
  lent : Lent
  job : List ℕ
  paper : Outcome

abbrev row : ℕ → ℕ → ℕ → List ℕ → Outcome → Item
row o r w b outcome = record { lent = lend o r w; job = b; paper = outcome }

abbrev items : List Item
items =
    row 20592 4 24576 job_h (done 160)
    ∷ row 20552 0 24576 file_b (done 76)
    ∷ row 20591 4 24576 job_h (refused 11 0)  -- 11: each of the three, and the first of them
    ∷ row 20592 3 24576 job_h (refused 11 1)
    ∷ row 20592 4 24575 job_h (refused 11 2)
    ∷ row 20591 3 24575 job_h (refused 11 0)
    ∷ row 20592 3 24575 job_h (refused 11 1)
    ∷ row 20551 0 24576 file_b (refused 11 0)
    ∷ row 20552 0 24575 file_b (refused 11 2)
    ∷ row 20632 4 24576 job_b (refused 21 10)  -- 21, and before 11
    ∷ row 0 0 0 job_b (refused 21 10)
    ∷ row 20632 4 24576 (job_j 4) (refused 10 116)  -- the job's own, before both
    ∷ row 0 0 0 (job_j 4) (refused 10 116)
    ∷ row 0 0 0 (set job_b 0 1) (refused 2 0)
    ∷ row 0 0 0 (take 31 job_h) (refused 1 31)
    ∷ []

table : map (λ (i : Item). deal_outcome i.lent i.job) items ≡ map (λ (i : Item). i.paper) items
unfolding opened
table = refl

-- What was lent, and is all 7 before, afterwards: the buffer, the table (0 stands here for an operation not begun) and the working memory.
data Left : Type 0 where
  left : List ℕ → List ℕ → List ℕ → Left

abbrev after : ℕ → ℕ → ℕ → List ℕ → Left
after o r w b =
    let l : Lent = lend o r w in
    left (deal_buffer l b (replicate o 7)) (deal_rows 0 l b (replicate r 7)) (deal_work l b (replicate w 7))

abbrev kept : ℕ → ℕ → ℕ → Left
kept o r w = left (replicate o 7) (replicate r 7) (replicate w 7)

-- dealt, with the rest of the buffer as it was; without operations, the same bytes; and refused, nothing is written
lent-after
    : (after 20600 6 24576 job_h ≡ left (dealt_h ++ replicate 20440 7) (replicate 6 0) (replicate 24576 0))
    × (after 20552 0 24576 file_b ≡ left (file_b ++ replicate 20476 7) [] (replicate 24576 0))
    × (after 20592 3 24576 job_h ≡ kept 20592 3 24576)
    × (after 1000 4 24576 job_b ≡ kept 1000 4 24576)
unfolding opened
lent-after = (refl, refl, refl, refl)
