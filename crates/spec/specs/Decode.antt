-- "The job, byte by byte": what any bytes say, read as a job. Total: it says what they mean once no row of the refusal table holds.
use Rattle.std.specs.Prelude.{ℕ, ◌^◌, List, ◌∷◌, map, drop}
use Rattle.spec.specs.declared.Rec.{Rec}
use Rattle.spec.specs.declared.Op.{Op}
use Rattle.spec.specs.Bytes.{byte, word, long, parts}
use Rattle.spec.specs.File.{Page, File, zero_page}
use Rattle.spec.specs.Job.{Job, Header, kind_of, g_at, c_at, limit_at, used_at, op_count_at, turn_count_at, entry_size, record_size, page_size, op_size, turn_size, directory_offset, table_offset, ops_offset, turns_offset}

unfoldable pub header_of : List ℕ → Header
header_of b =
    record {
      g = byte b g_at;
      c = byte b c_at;
      limit = word b limit_at;
      used = word b used_at;
      ops = word b op_count_at;
      turns = word b turn_count_at;
    }

-- the bytes of each entry, page, operation and turn
unfoldable pub entry_parts : Header → List ℕ → List (List ℕ)
entry_parts h b = parts (2 ^ h.g) entry_size (drop directory_offset b)

unfoldable pub page_parts : Header → List ℕ → List (List ℕ)
page_parts h b = parts h.limit (page_size h.c) (drop (table_offset h) b)

unfoldable pub op_parts : Header → List ℕ → List (List ℕ)
op_parts h b = parts h.ops op_size (drop (ops_offset h) b)

unfoldable pub turn_parts : Header → List ℕ → List (List ℕ)
turn_parts h b = parts h.turns turn_size (drop (turns_offset h) b)

-- an entry, and a turn: 2 bytes
unfoldable pub number_of : List ℕ → ℕ
number_of b = word b 0

-- "records of call number and charge"
unfoldable pub record_of : List ℕ → Rec
record_of b = record { call = long b 0; charge = long b 4 }

-- "l (1), record count (1), pattern (2), then records"
unfoldable pub page_of : List ℕ → Page
page_of b = record { depth = byte b 0; pattern = word b 2; records = map record_of (parts (byte b 1) record_size (drop 4 b)) }

-- "kind (1 search, 2 insert, 3 delete), a zero byte, call number (4), charge (4; ..)"
unfoldable pub op_of : List ℕ → Op
op_of b = record { kind = kind_of (byte b 0); call = long b 2; charge = long b 6 }

unfoldable pub file_of : List ℕ → File
file_of b =
    let h = header_of b in
    record {
      g = h.g;
      c = h.c;
      limit = h.limit;
      used = h.used;
      directory = map number_of (entry_parts h b);
      table = zero_page ∷ map page_of (page_parts h b);
    }

unfoldable pub job_of : List ℕ → Job
job_of b =
    let h = header_of b in
    record { file = file_of b; ops = map op_of (op_parts h b); turns = map number_of (turn_parts h b) }
