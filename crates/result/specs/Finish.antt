-- What finishing a run asks and does: log, header and charge file are written behind the answers.
use Rattle.std.specs.Prelude.{◌≡◌, List, map, ℕ, suc, ◌*◌, ◌^◌, ◌≤◌, ◌<◌, length, take, drop}
use Rattle.spec.specs.Basics.{each}
use Rattle.spec.specs.File.{File, page_at, entry_at}
use Rattle.spec.specs.Encode.{page_bytes}
use Rattle.spec.specs.State.{State}
use Rattle.spec.specs.Result.{told_of, count_under, Result, result_version, answer_size, answer_bytes, answers_offset, file_offset, offset_field, encode_result}
use Rattle.wire.specs.Over.{over}
use Rattle.memory.specs.Memory.{entry_in, used_in, part_in}
use Rattle.result.specs.Lines.{Logged}

-- The memory shows a file of depth g, capacity c and page count P: each entry, each page and the pages in use
pub record FileShown (f : File) (g c P : ℕ) (w : List ℕ) : Type 0 where
  pub depth : f.g ≡ g
  pub capacity : f.c ≡ c
  pub limit : f.limit ≡ P
  pub used : used_in w ≡ f.used
  pub entries : (j : ℕ) → j < 2 ^ g → entry_in w j ≡ entry_at f j
  pub pages : (x : ℕ) → 1 ≤ x → x ≤ P → part_in c w x ≡ page_bytes c (page_at f x)
  pub directory : length f.directory ≡ 2 ^ g
  pub table : length f.table ≡ suc P

-- the numbers in the header of a result
pub record Heads (r : Result) (m lines under file total : ℕ) : Type 0 where
  pub version : r.version ≡ result_version
  pub answers : length r.answers ≡ m
  pub log : length r.log ≡ lines
  pub unended : r.unended ≡ under
  pub offset : offset_field r.file (file_offset (length r.answers) (length r.log)) ≡ file
  pub end : r.total ≡ total

-- A run that is over, in the state s: its answers stand behind the header of the result buffer b, its marks in the memory w, which shows its
-- file; `under` operations are begun but unfinished
pub record Ready (s : State) (g c P m under : ℕ) (b w : List ℕ) : Type 0 where
  pub answers : take (answer_size * m) (drop answers_offset b) ≡ each answer_bytes (map told_of s.rows)
  pub logged : Logged s.rows s.now w m
  pub unended : count_under s.rows ≡ under
  pub file : FileShown s.file g c P w

-- The buffer b became t: the result's bytes stand first, and what lies behind them is as it was; v is the total
pub record Finished (r : Result) (b t : List ℕ) (v : ℕ) : Type 0 where
  pub bytes : t ≡ over b 0 (encode_result r)
  pub total : v ≡ length (encode_result r)
  pub fits : v ≤ length b
