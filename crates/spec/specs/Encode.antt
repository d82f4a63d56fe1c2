-- "The job, byte by byte": a job and a charge file as bytes.
use Rattle.std.specs.Prelude.{ℕ, ◌-◌, ◌*◌, List, [], ◌∷◌, ◌++◌, length, drop, replicate}
use Rattle.spec.specs.declared.Rec.{Rec}
use Rattle.spec.specs.declared.Op.{Op}
use Rattle.spec.specs.Basics.{each}
use Rattle.spec.specs.Bytes.{two, four}
use Rattle.spec.specs.File.{Page, File}
use Rattle.spec.specs.Job.{Job, file_job, Header, kind_number, job_version, record_size, directory_offset, table_offset, ops_offset, turns_offset, total}

-- "version (2 bytes, ..); g (1); c (1); page count P (2); .. offsets of directory, page table, operations and turns, and the total length"
unfoldable pub header_bytes : Header → List ℕ
header_bytes h =
    two job_version
    ++ (h.g ∷ h.c ∷ [])
    ++ two h.limit
    ++ two h.used
    ++ two h.ops
    ++ two h.turns
    ++ four directory_offset
    ++ four (table_offset h)
    ++ four (ops_offset h)
    ++ four (turns_offset h)
    ++ four (total h)

-- "records of call number and charge"
unfoldable pub record_bytes : Rec → List ℕ
record_bytes r = four r.call ++ four r.charge

-- "Page, 4 + 8c bytes: l (1), record count (1), pattern (2), then records"; "a record no longer used, here or after a split, is zero"
unfoldable pub page_bytes : ℕ → Page → List ℕ
page_bytes c p =
    (p.depth ∷ length p.records ∷ [])
    ++ two p.pattern
    ++ each record_bytes p.records
    ++ replicate (record_size * (c - length p.records)) 0

-- "Operation, 10 bytes: kind .., a zero byte, call number (4), charge (4; ..)"
unfoldable pub op_bytes : Op → List ℕ
op_bytes o = (kind_number o.kind ∷ 0 ∷ []) ++ four o.call ++ four o.charge

-- the header of a job with this file, this many operations and this many turns
unfoldable pub header_for : File → ℕ → ℕ → Header
header_for f m t = record { g = f.g; c = f.c; limit = f.limit; used = f.used; ops = m; turns = t }

-- "The sections follow in that order with no gap"
unfoldable pub encode_job : Job → List ℕ
encode_job j =
    header_bytes (header_for j.file (length j.ops) (length j.turns))
    ++ each two j.file.directory
    ++ each (page_bytes j.file.c) (drop 1 j.file.table)
    ++ each op_bytes j.ops
    ++ each two j.turns

-- "A charge file is a job with no operations and no turns"
unfoldable pub encode_file : File → List ℕ
encode_file f = encode_job (file_job f)
