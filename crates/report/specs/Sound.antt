-- What the report asks of a job's bytes and of a result's bytes: that each section it reads lies within them, and the limits.
use Rattle.std.specs.Prelude.{◌≡◌, List, ℕ, ◌+◌, ◌*◌, ◌≤◌, ◌<◌, length, take, drop}
use Rattle.spec.specs.Bytes.{byte, word, long}
use Rattle.spec.specs.Job.{max_capacity, max_pages, max_ops, header_size, c_at, limit_at, used_at, op_count_at, table_offset_at, ops_offset_at, record_size, page_size, op_size, table_offset, ops_offset}
use Rattle.spec.specs.Decode.{header_of}
use Rattle.spec.specs.Result.{answer_count_at, line_count_at, answers_offset_at, log_offset_at, file_offset_at, result_total_at, answer_size, line_size, answers_offset, file_part}

-- the operations, and an answer for each
pub record OpsSound (job res : List ℕ) : Type 0 where
  pub header : header_size ≤ length job
  pub top : answers_offset ≤ length res
  pub few : word job op_count_at ≤ max_ops
  pub count : word res answer_count_at ≡ word job op_count_at
  pub place : long job ops_offset_at ≡ ops_offset (header_of job)
  pub ops : long job ops_offset_at + op_size * word job op_count_at ≤ length job
  pub answers : long res answers_offset_at + answer_size * word res answer_count_at ≤ length res

-- the log: no more lines than there can be operations
pub record LogSound (res : List ℕ) : Type 0 where
  pub top : answers_offset ≤ length res
  pub few : word res line_count_at ≤ max_ops
  pub log : long res log_offset_at + line_size * word res line_count_at ≤ length res

-- each of n pages of `size` bytes has room for its records
pub record Counts (table : List ℕ) (size n : ℕ) : Type 0 where
  pub each : (k : ℕ) → k < n → 4 + record_size * byte (take size (drop (size * k) table)) 1 ≤ size

-- a charge file: its pages in use
pub record FileSound (b : List ℕ) : Type 0 where
  pub header : header_size ≤ length b
  pub capacity : byte b c_at ≤ max_capacity
  pub few : word b used_at ≤ max_pages
  pub within : word b used_at ≤ word b limit_at
  pub place : long b table_offset_at ≡ table_offset (header_of b)
  pub table : long b table_offset_at + page_size (byte b c_at) * word b used_at ≤ length b
  pub counts : Counts (drop (long b table_offset_at) b) (page_size (byte b c_at)) (word b used_at)

-- the charge file of a result, from its offset to the total
pub record ChargeSound (res : List ℕ) : Type 0 where
  pub ordered : long res file_offset_at ≤ long res result_total_at
  pub within : long res result_total_at ≤ length res
  pub file : FileSound (file_part res)

pub record Sound (job res : List ℕ) : Type 0 where
  pub ops : OpsSound job res
  pub log : LogSound res
  pub charge : (long res file_offset_at ≡ 0 → ⊥) → ChargeSound res
