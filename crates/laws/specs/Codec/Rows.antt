-- A job is accepted exactly if no row about its bytes holds; and what rows 1 to 4, the rows about the header, say where they do not hold.
use Rattle.std.specs.Prelude.{ℕ, suc, ◌^◌, ◌≤◌, ◌≡◌, ◌↔◌, List, length, None}
use Rattle.std.proofs.Common.{arith}
use Rattle.std.proofs.lemmas.List.{length-map}
use Rattle.spec.specs.Bytes.{word, long}
use Rattle.spec.specs.Job.{Header, max_depth, min_capacity, max_capacity, min_pages, max_pages, max_ops, max_turns, header_size, job_version, version_at, directory_offset_at, table_offset_at, ops_offset_at, turns_offset_at, total_at, directory_offset, table_offset, ops_offset, turns_offset, total}
use Rattle.spec.specs.Decode.{header_of, file_of, entry_parts, page_parts, op_parts, turn_parts, job_of}
use Rattle.spec.specs.Check.{short, wrong_version, over_limit, wrong_offset, wrong_entry, wrong_page, wrong_owner, wrong_record, wrong_op, wrong_turn, job_fault}
use Rattle.laws.specs.Codec.Tools.{failed, among_none, among_end, numbered-none, row-none, row_end}
use Rattle.laws.specs.Codec.Parts.{length-parts}

-- no row holds
pub record Rows (b : List ℕ) : Type 0 where
  pub r1 : short b ≡ None
  pub r2 : wrong_version b ≡ None
  pub r3 : over_limit b ≡ None
  pub r4 : wrong_offset b ≡ None
  pub r5 : wrong_entry b ≡ None
  -- 12, 6 and 13
  pub r6 : wrong_page b ≡ None
  pub r7 : wrong_owner b ≡ None
  pub r8 : wrong_record b ≡ None
  pub r9 : wrong_op b ≡ None
  pub r10 : wrong_turn b ≡ None

pub accepted-rows : (b : List ℕ) → job_fault b ≡ None ↔ Rows b
unfolding job_fault
accepted-rows b = simp (row-none, row_end, numbered-none) (λ e. search, λ r. search)

-- row 3: the limits (a lower limit of 0 says nothing)
pub record Limits (h : Header) : Type 0 where
  pub depth : h.g ≤ max_depth
  pub capacity : (min_capacity ≤ h.c) × (h.c ≤ max_capacity)
  pub pages : (min_pages ≤ h.limit) × (h.limit ≤ max_pages)
  pub used : (1 ≤ h.used) × (h.used ≤ h.limit)
  pub ops : h.ops ≤ max_ops
  pub turns : h.turns ≤ max_turns

pub limits_said : (b : List ℕ) → over_limit b ≡ None ↔ Limits (header_of b)
unfolding over_limit
limits_said b = simp (failed, among_none, among_end) (omega arith)

-- rows 1, 2 and 4: the header's other fields, and the length
pub record Laid (b : List ℕ) : Type 0 where
  pub header : header_size ≤ length b
  pub first : word b version_at ≡ job_version
  pub directory : long b directory_offset_at ≡ directory_offset
  pub table : long b table_offset_at ≡ table_offset (header_of b)
  pub ops : long b ops_offset_at ≡ ops_offset (header_of b)
  pub turns : long b turns_offset_at ≡ turns_offset (header_of b)
  pub whole : long b total_at ≡ total (header_of b)
  pub size : length b ≡ total (header_of b)

pub header_said : (b : List ℕ) → (short b ≡ None) × (wrong_version b ≡ None) × (wrong_offset b ≡ None) ↔ Laid b
unfolding short wrong_version wrong_offset
header_said b = simp (failed, among_none, among_end) (omega arith)

-- the counts of the header are the lengths of what is read
pub record Counted (b : List ℕ) : Type 0 where
  pub directory : length (file_of b).directory ≡ 2 ^ (header_of b).g
  pub table : length (file_of b).table ≡ suc (header_of b).limit
  pub ops : length (job_of b).ops ≡ (header_of b).ops
  pub turns : length (job_of b).turns ≡ (header_of b).turns

pub counted : (b : List ℕ) → Counted b
unfolding file_of job_of entry_parts page_parts op_parts turn_parts
counted b =
    record {
      directory = rw (length-map, length-parts);
      table = rw (length-map, length-parts);
      ops = rw (length-map, length-parts);
      turns = rw (length-map, length-parts);
    }

-- WHAT THE HEADER OF AN ACCEPTED JOB SAYS
pub record HeaderSays (b : List ℕ) : Type 0 where
  pub limits : Limits (header_of b)
  pub laid : Laid b
  pub counts : Counted b

pub accepted_header : (b : List ℕ) → job_fault b ≡ None → HeaderSays b
accepted_header b e =
    let rows = (accepted-rows b).0 e in
    record { limits = (limits_said b).0 rows.r3; laid = (header_said b).0 (rows.r1, rows.r2, rows.r4); counts = counted b }
