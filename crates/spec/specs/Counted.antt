-- Jobs whose operations use as many turns as any of their kind can, at depths 0, 1 and 8; and a hotel's forty operations, to be counted.
use Rattle.std.specs.Prelude.{ℕ, List, [], ◌∷◌, ◌++◌, take, drop, replicate}
use Rattle.spec.specs.declared.Kind.TheVariants.{Search, Insert, Delete}
use Rattle.spec.specs.Basics.{each}
use Rattle.spec.specs.Bytes.{two, four}
use Rattle.spec.specs.File.{zero_page}
use Rattle.spec.specs.Job.{Job}
use Rattle.spec.specs.Worked.{job_b}

-- one page, and no split: call 5 is inserted and deleted, and looked for; one after another
abbrev pub job_flat : List ℕ
job_flat =
    (2 ∷ 0 ∷ 0 ∷ 1 ∷ 1 ∷ 0 ∷ 1 ∷ 0 ∷ 3 ∷ 0 ∷ 15 ∷ 0 ∷  -- version, g, c, P, U, m, turns
    32 ∷ 0 ∷ 0 ∷ 0 ∷ 34 ∷ 0 ∷ 0 ∷ 0 ∷ 46 ∷ 0 ∷ 0 ∷ 0 ∷ 76 ∷ 0 ∷ 0 ∷ 0 ∷ 106 ∷ 0 ∷ 0 ∷ 0 ∷  -- offsets of directory, page table, operations and turns; total
    1 ∷ 0 ∷ [])  -- directory
    ++ replicate 12 0  -- page 1
    ++ (2 ∷ 0 ∷ []) ++ four 5 ++ four 10  -- operation 0
    ++ (3 ∷ 0 ∷ []) ++ four 5 ++ four 0  -- operation 1
    ++ (1 ∷ 0 ∷ []) ++ four 5 ++ four 0  -- operation 2
    ++ each two (replicate 6 0 ++ replicate 6 1 ++ replicate 3 2)  -- turns

-- job E's file and insert, with a delete of call 3 and a search of call 5 that both read page 1 before the insert splits it, and then go on to page 2
abbrev pub job_teased : List ℕ
job_teased =
    (2 ∷ 0 ∷ 1 ∷ 2 ∷ 2 ∷ 0 ∷ 1 ∷ 0 ∷ 3 ∷ 0 ∷ 23 ∷ 0 ∷  -- version, g, c, P, U, m, turns
    32 ∷ 0 ∷ 0 ∷ 0 ∷ 36 ∷ 0 ∷ 0 ∷ 0 ∷ 76 ∷ 0 ∷ 0 ∷ 0 ∷ 106 ∷ 0 ∷ 0 ∷ 0 ∷ 152 ∷ 0 ∷ 0 ∷ 0 ∷ [])  -- offsets of directory, page table, operations and turns; total
    ++ take 54 (drop 32 job_b)  -- directory, pages and operation 0, as in job E
    ++ (3 ∷ 0 ∷ []) ++ four 3 ++ four 0  -- operation 1
    ++ (1 ∷ 0 ∷ []) ++ four 5 ++ four 0  -- operation 2
    ++ each two ((1 ∷ 2 ∷ 2 ∷ []) ++ replicate 9 0 ++ replicate 8 1 ++ replicate 3 2)  -- turns

-- the deepest directory there is, and one page with call 235: the insert of call 33, which shares its first seven bits, writes 8 new pages and
-- changes all entries but the first
abbrev pub job_wide : List ℕ
job_wide =
    (2 ∷ 0 ∷ 8 ∷ 1 ∷ 9 ∷ 0 ∷ 1 ∷ 0 ∷ 1 ∷ 0 ∷ 14 ∷ 1 ∷  -- version, g, c, P, U, m, turns
    32 ∷ 0 ∷ 0 ∷ 0 ∷ 32 ∷ 2 ∷ 0 ∷ 0 ∷ 140 ∷ 2 ∷ 0 ∷ 0 ∷ 150 ∷ 2 ∷ 0 ∷ 0 ∷ 178 ∷ 4 ∷ 0 ∷ 0 ∷ [])  -- offsets of directory, page table, operations and turns; total
    ++ each two (replicate 256 1)  -- directory
    ++ (0 ∷ 1 ∷ 0 ∷ 0 ∷ []) ++ each four (235 ∷ 20 ∷ [])  -- page 1
    ++ replicate 96 0  -- pages 2 to 9
    ++ (2 ∷ 0 ∷ []) ++ four 33 ++ four 10  -- operation 0
    ++ each two (replicate 270 0)  -- turns

-- "A hotel with 40 operations", at depth 3: sixteen inserts, twelve deletes and twelve searches. Only its depth and their kinds count here
abbrev pub forty : Job
forty =
    record {
      file = record { g = 3; c = 4; limit = 8; used = 1; directory = replicate 8 1; table = replicate 9 zero_page };
      ops =
          replicate 16 (record { kind = Insert; call = 1; charge = 10 })
          ++ replicate 12 (record { kind = Delete; call = 1; charge = 0 })
          ++ replicate 12 (record { kind = Search; call = 1; charge = 0 });
      turns = [];
    }
