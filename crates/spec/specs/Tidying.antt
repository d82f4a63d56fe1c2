-- Tidying by computation: files tidied at several depths, and each refusal with the one that comes before it.
use Rattle.std.specs.Prelude.{ℕ, ◌≡◌, refl, List, [], ◌∷◌, ◌++◌, map, set, take, drop, replicate}
use Rattle.spec.specs.Basics.{each}
use Rattle.spec.specs.Bytes.{two}
use Rattle.spec.specs.Tidy.{tidy_outcome, tidy_buffer}
use Rattle.spec.specs.Worked.{job_c, result_c}
use Rattle.spec.specs.Outcome.{Outcome, done, refused}
use Rattle.spec.specs.Opened.{opened}

-- the charge file of (C): depth 2, capacity 2; page 1 (depth 1, pattern 0) empty, page 2 (depth 2, pattern 2) with 3 and 5, page 3 (depth 2, pattern 3) with 1
abbrev file_c : List ℕ
file_c = drop 36 result_c

-- the same without call 3: pages 2 and 3 hold two records, and all three pages do
abbrev thin : List ℕ
thin = take 60 file_c ++ (2 ∷ 1 ∷ 2 ∷ 0 ∷ 5 ∷ 0 ∷ 0 ∷ 0 ∷ 20 ∷ 0 ∷ 0 ∷ 0 ∷ []) ++ replicate 8 0 ++ drop 80 file_c

-- all in one page, with a directory of one entry
abbrev thin0 : List ℕ
thin0 =
    (2 ∷ 0 ∷ 0 ∷ 2 ∷ 3 ∷ 0 ∷ 1 ∷ 0 ∷ 0 ∷ 0 ∷ 0 ∷ 0 ∷ [])  -- version, g, c, P, U, m, turns
    ++ (32 ∷ 0 ∷ 0 ∷ 0 ∷ 34 ∷ 0 ∷ 0 ∷ 0 ∷ 94 ∷ 0 ∷ 0 ∷ 0 ∷ 94 ∷ 0 ∷ 0 ∷ 0 ∷ 94 ∷ 0 ∷ 0 ∷ 0 ∷ [])  -- offsets of directory, page table, operations and turns; total
    ++ (1 ∷ 0 ∷ [])  -- directory
    ++ (0 ∷ 2 ∷ 0 ∷ 0 ∷ 1 ∷ 0 ∷ 0 ∷ 0 ∷ 10 ∷ 0 ∷ 0 ∷ 0 ∷ 5 ∷ 0 ∷ 0 ∷ 0 ∷ 20 ∷ 0 ∷ 0 ∷ 0 ∷ [])  -- page 1
    ++ replicate 40 0  -- pages 2 and 3, no longer in use

-- a deeper directory: no two of the pages hold at most two records
abbrev file_c3 : List ℕ
file_c3 =
    (2 ∷ 0 ∷ 3 ∷ 2 ∷ 3 ∷ 0 ∷ 3 ∷ 0 ∷ 0 ∷ 0 ∷ 0 ∷ 0 ∷ [])  -- version, g, c, P, U, m, turns
    ++ (32 ∷ 0 ∷ 0 ∷ 0 ∷ 48 ∷ 0 ∷ 0 ∷ 0 ∷ 108 ∷ 0 ∷ 0 ∷ 0 ∷ 108 ∷ 0 ∷ 0 ∷ 0 ∷ 108 ∷ 0 ∷ 0 ∷ 0 ∷ [])  -- offsets of directory, page table, operations and turns; total
    ++ (1 ∷ 0 ∷ 1 ∷ 0 ∷ 1 ∷ 0 ∷ 1 ∷ 0 ∷ 2 ∷ 0 ∷ 2 ∷ 0 ∷ 3 ∷ 0 ∷ 3 ∷ 0 ∷ [])  -- directory
    ++ drop 40 file_c  -- pages

-- the pages of (C)'s file numbered otherwise: 2 and 3 change places
abbrev turned : List ℕ
turned = set (set (take 60 file_c) 36 3) 38 2 ++ drop 80 file_c ++ take 20 (drop 60 file_c)

-- the deepest directory there is, for the one page
abbrev thin8 : List ℕ
thin8 =
    (2 ∷ 0 ∷ 8 ∷ 2 ∷ 3 ∷ 0 ∷ 1 ∷ 0 ∷ 0 ∷ 0 ∷ 0 ∷ 0 ∷ [])  -- version, g, c, P, U, m, turns
    ++ (32 ∷ 0 ∷ 0 ∷ 0 ∷ 32 ∷ 2 ∷ 0 ∷ 0 ∷ 92 ∷ 2 ∷ 0 ∷ 0 ∷ 92 ∷ 2 ∷ 0 ∷ 0 ∷ 92 ∷ 2 ∷ 0 ∷ 0 ∷ [])  -- offsets of directory, page table, operations and turns; total
    ++ each two (replicate 256 1)  -- directory
    ++ drop 34 thin0  -- pages

-- pages 2 and 3 hold two records together, but their patterns, 01 and 10, differ in both bits: they are no pair
abbrev neighbours : List ℕ
neighbours =
    (2 ∷ 0 ∷ 2 ∷ 2 ∷ 4 ∷ 0 ∷ 4 ∷ 0 ∷ 0 ∷ 0 ∷ 0 ∷ 0 ∷ [])  -- version, g, c, P, U, m, turns
    ++ (32 ∷ 0 ∷ 0 ∷ 0 ∷ 40 ∷ 0 ∷ 0 ∷ 0 ∷ 120 ∷ 0 ∷ 0 ∷ 0 ∷ 120 ∷ 0 ∷ 0 ∷ 0 ∷ 120 ∷ 0 ∷ 0 ∷ 0 ∷ [])  -- offsets of directory, page table, operations and turns; total
    ++ (1 ∷ 0 ∷ 2 ∷ 0 ∷ 3 ∷ 0 ∷ 4 ∷ 0 ∷ [])  -- directory
    ++ (2 ∷ 2 ∷ 0 ∷ 0 ∷ 4 ∷ 0 ∷ 0 ∷ 0 ∷ 10 ∷ 0 ∷ 0 ∷ 0 ∷ 11 ∷ 0 ∷ 0 ∷ 0 ∷ 20 ∷ 0 ∷ 0 ∷ 0 ∷ [])  -- page 1
    ++ (2 ∷ 1 ∷ 1 ∷ 0 ∷ 7 ∷ 0 ∷ 0 ∷ 0 ∷ 30 ∷ 0 ∷ 0 ∷ 0 ∷ [])  -- page 2
    ++ replicate 8 0
    ++ (2 ∷ 1 ∷ 2 ∷ 0 ∷ 3 ∷ 0 ∷ 0 ∷ 0 ∷ 40 ∷ 0 ∷ 0 ∷ 0 ∷ [])  -- page 3
    ++ replicate 8 0
    ++ (2 ∷ 2 ∷ 3 ∷ 0 ∷ 1 ∷ 0 ∷ 0 ∷ 0 ∷ 50 ∷ 0 ∷ 0 ∷ 0 ∷ 2 ∷ 0 ∷ 0 ∷ 0 ∷ 60 ∷ 0 ∷ 0 ∷ 0 ∷ [])  -- page 4

-- What is asked, with an output buffer of this many bytes that are all 7; and what comes of it.
record Row : Type 0 where
  room : ℕ
  depth : ℕ
  file : List ℕ

data Said : Type 0 where
  ends : Outcome → List ℕ → Said

abbrev says : Row → Said
says r = ends (tidy_outcome r.room r.depth r.file) (tidy_buffer r.depth r.file (replicate r.room 7))

record Item : Type 0 where
  asked : Row
  paper : Said

abbrev row : ℕ → ℕ → List ℕ → Outcome → List ℕ → Item
row room d b o out = record { asked = record { room = room; depth = d; file = b }; paper = ends o out }

abbrev items : List Item
items =
    row 100 0 thin (done 94) (thin0 ++ replicate 6 7)
    ∷ row 94 0 thin0 (done 94) thin0
    ∷ row 604 8 thin0 (done 604) thin8
    ∷ row 120 2 neighbours (done 120) neighbours
    ∷ row 100 2 file_c (done 100) file_c
    ∷ row 100 2 turned (done 100) file_c
    ∷ row 108 3 file_c (done 108) file_c3
    ∷ row 107 3 file_c (refused 11 0) (replicate 107 7)
    ∷ row 10 1 file_c (refused 19 0) (replicate 10 7)
    ∷ row 10 9 thin (refused 19 0) (replicate 10 7)
    ∷ row 10 9 job_c (refused 18 8) (replicate 10 7)
    ∷ row 10 9 (set job_c 110 1) (refused 10 110) (replicate 10 7)
    ∷ row 10 9 (set job_c 0 1) (refused 2 0) (replicate 10 7)
    ∷ []

table : map (λ (i : Item). says i.asked) items ≡ map (λ (i : Item). i.paper) items
unfolding opened
table = refl
