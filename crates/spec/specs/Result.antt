-- "The result": answers, log, the charge file or none; the result's bytes, and what any bytes say, read as a result.
use Rattle.std.specs.Prelude.{ℕ, zero, suc, ◌+◌, ◌-◌, ◌*◌, List, [], ◌∷◌, ◌++◌, map, Bool, true, false, not, ◌&&◌, length, take, drop, eqb, Option, None, Some}
use Rattle.spec.specs.declared.Stage.{Stage}
use Rattle.spec.specs.declared.Stage.TheVariants.{NotBegun, ReadPage, Reread, Lock, Held, Split, Done}
use Rattle.spec.specs.Basics.{if, each}
use Rattle.spec.specs.Bytes.{byte, word, long, two, four, parts}
use Rattle.spec.specs.Code.{not_yet}
use Rattle.spec.specs.Job.{Job}
use Rattle.spec.specs.Encode.{encode_file}
use Rattle.spec.specs.State.{Row, State}
use Rattle.spec.specs.Run.{run}

-- An operation's answer, as the result tells it: code, page, turns used, charge. The page is its number, and 0 for code 0.
pub record Told : Type 0 where
  pub code : ℕ
  pub page : ℕ
  pub used : ℕ
  pub charge : ℕ

-- "Charge is the record's for 1, 3, 4 and 5, else 0", but for 9 "the file's charge": the row's charge and page are set with its code, and are 0 before
unfoldable pub told_of : Row → Told
told_of r = record { code = r.code; page = r.page; used = r.used; charge = r.charge }

-- A line of the log.
pub record Line : Type 0 where
  pub moment : ℕ
  pub op : ℕ

-- the operation has a code other than 0, and its moment is t
unfoldable pub is_at : ℕ → Row → Bool
is_at t r = not (eqb r.code not_yet) && eqb r.moment t

-- the lines of the operations, numbered from i, whose moment is t
unfoldable pub lines_at : ℕ → List Row → ℕ → List Line
lines_at t [] i = []
lines_at t (r ∷ rs) i = if (is_at t r) (record { moment = t; op = i } ∷ lines_at t rs (suc i)) (lines_at t rs (suc i))

-- the lines of the next n turns, from turn t on
unfoldable pub lines_from : ℕ → ℕ → List Row → List Line
lines_from zero t rs = []
lines_from (suc n) t rs = lines_at t rs 0 ++ lines_from n (suc t) rs

-- "Log ..: moment (a turn number from 0) and operation, by moment, then operation"
unfoldable pub log_of : State → List Line
log_of s = lines_from s.now 0 s.rows

-- begun and not finished
unfoldable pub under_way : Stage → Bool
under_way NotBegun = false
under_way (ReadPage x) = true
under_way (Reread x t) = true
under_way (Lock x) = true
under_way (Held x t) = true
under_way (Split x b n q) = true
under_way Done = false

unfoldable pub count_under : List Row → ℕ
count_under [] = 0
count_under (r ∷ rs) = if (under_way r.stage) (suc (count_under rs)) (count_under rs)

-- "The result's version is 2": its own, whatever the job's is
abbrev pub result_version : ℕ
result_version = 2

-- "Header, 24 bytes: version .., m, log length L, operations begun but unfinished (2 bytes each); offsets of answers, log and charge file, .., and
-- the total (4 each)": where each field stands
abbrev pub result_version_at : ℕ
result_version_at = 0

abbrev pub answer_count_at : ℕ
answer_count_at = 2

abbrev pub line_count_at : ℕ
line_count_at = 4

abbrev pub unended_at : ℕ
unended_at = 6

abbrev pub answers_offset_at : ℕ
answers_offset_at = 8

abbrev pub log_offset_at : ℕ
log_offset_at = 12

abbrev pub file_offset_at : ℕ
file_offset_at = 16

abbrev pub result_total_at : ℕ
result_total_at = 20

-- "Answer, 8 bytes"; "Log, 4 bytes a line"
abbrev pub answer_size : ℕ
answer_size = 8

abbrev pub line_size : ℕ
line_size = 4

-- "answers, log and charge file, which follow in that order with no gap": where each begins, with m answers and a log of so many lines
abbrev pub answers_offset : ℕ
answers_offset = 24

unfoldable pub log_offset : ℕ → ℕ
log_offset m = answers_offset + answer_size * m

unfoldable pub file_offset : ℕ → ℕ → ℕ
file_offset m lines = log_offset m + line_size * lines

-- "there is no charge file and its offset is 0": the charge file's offset and bytes in the result
unfoldable pub offset_field : Option (List ℕ) → ℕ → ℕ
offset_field None at = 0
offset_field (Some f) at = at

unfoldable pub file_bytes : Option (List ℕ) → List ℕ
file_bytes None = []
file_bytes (Some f) = f

-- What a result says: of its header the version, the operations begun but unfinished and the total; answers; log; the bytes of the charge file,
-- or none. (m and L are the lengths of answers and log.)
pub record Result : Type 0 where
  pub version : ℕ
  pub unended : ℕ
  pub total : ℕ
  pub answers : List Told
  pub log : List Line
  pub file : Option (List ℕ)

-- "If any operation is begun but unfinished, there is no charge file"
unfoldable pub file_left : State → Option (List ℕ)
file_left s = if (eqb (count_under s.rows) 0) (Some (encode_file s.file)) None

unfoldable pub result_of : State → Result
result_of s =
    record {
      version = result_version;
      unended = count_under s.rows;
      total = file_offset (length s.rows) (length (log_of s)) + length (file_bytes (file_left s));
      answers = map told_of s.rows;
      log = log_of s;
      file = file_left s;
    }

unfoldable pub result : Job → Result
result j = result_of (run j)

-- "The zero byte in an answer becomes the page number less one"; "For code 0 it stays zero"
unfoldable pub page_byte : Told → ℕ
page_byte a = if (eqb a.code not_yet) 0 (a.page - 1)

-- "Answer, 8 bytes: code, [page] byte, turns used without waiting (2), charge (4)"
unfoldable pub answer_bytes : Told → List ℕ
answer_bytes a = (a.code ∷ page_byte a ∷ []) ++ two a.used ++ four a.charge

-- "Log, 4 bytes a line: moment (a turn number from 0) and operation"
unfoldable pub line_bytes : Line → List ℕ
line_bytes l = two l.moment ++ two l.op

-- "Header, 24 bytes: version .., m, log length L, operations begun but unfinished (2 bytes each); offsets .., and the total (4 each)"
unfoldable pub result_header : Result → List ℕ
result_header r =
    two r.version
    ++ two (length r.answers)
    ++ two (length r.log)
    ++ two r.unended
    ++ four answers_offset
    ++ four (log_offset (length r.answers))
    ++ four (offset_field r.file (file_offset (length r.answers) (length r.log)))
    ++ four r.total

unfoldable pub encode_result : Result → List ℕ
encode_result r = result_header r ++ each answer_bytes r.answers ++ each line_bytes r.log ++ file_bytes r.file

-- the page of an answer, by the answer's code and the byte: for code 0 what stands there, so that a byte other than zero shows
unfoldable pub page_told : ℕ → ℕ → ℕ
page_told code p = if (eqb code not_yet) p (suc p)

-- An answer and a line, as their bytes say them.
unfoldable pub answer_of : List ℕ → Told
answer_of b = record { code = byte b 0; page = page_told (byte b 0) (byte b 1); used = word b 2; charge = long b 4 }

unfoldable pub line_of : List ℕ → Line
line_of b = record { moment = word b 0; op = word b 2 }

-- the sections of a result, where its header says that they begin
unfoldable pub answers_in : List ℕ → List Told
answers_in b = map answer_of (parts (word b answer_count_at) answer_size (drop (long b answers_offset_at) b))

unfoldable pub log_in : List ℕ → List Line
log_in b = map line_of (parts (word b line_count_at) line_size (drop (long b log_offset_at) b))

-- the charge file stands from its offset to the total; "there is no charge file and its offset is 0"
unfoldable pub file_part : List ℕ → List ℕ
file_part b = take (long b result_total_at - long b file_offset_at) (drop (long b file_offset_at) b)

unfoldable pub file_in : List ℕ → Option (List ℕ)
file_in b = if (eqb (long b file_offset_at) 0) None (Some (file_part b))

-- What any bytes say, read as a result. Total, as the reading of a job is; other bytes may stand behind those of a result.
unfoldable pub read_result : List ℕ → Result
read_result b =
    record {
      version = word b result_version_at;
      unended = word b unended_at;
      total = long b result_total_at;
      answers = answers_in b;
      log = log_in b;
      file = file_in b;
    }
