-- "The job, byte by byte": limits, header, where each section stands, what a job is, and where a delete strikes out.
use Rattle.std.specs.Prelude.{ℕ, ◌+◌, ◌-◌, ◌*◌, ◌^◌, List, [], Bool, ◌||◌, eqb}
use Rattle.spec.specs.declared.Kind.{Kind}
use Rattle.spec.specs.declared.Kind.TheVariants.{Search, Insert, Delete}
use Rattle.spec.specs.declared.Op.{Op}
use Rattle.spec.specs.Basics.{if}
use Rattle.spec.specs.File.{File}

-- "The limits belong to the job kind itself: depth 0 to 8, capacity 1 to 8, pages 1 to 256, operations 0 to 256, turns 0 to 16,384"
abbrev pub min_depth : ℕ
min_depth = 0

abbrev pub max_depth : ℕ
max_depth = 8

abbrev pub min_capacity : ℕ
min_capacity = 1

abbrev pub max_capacity : ℕ
max_capacity = 8

abbrev pub min_pages : ℕ
min_pages = 1

abbrev pub max_pages : ℕ
max_pages = 256

abbrev pub min_ops : ℕ
min_ops = 0

abbrev pub max_ops : ℕ
max_ops = 256

abbrev pub min_turns : ℕ
min_turns = 0

abbrev pub max_turns : ℕ
max_turns = 16384

-- A job: a file, operations, and a list of turns, each the number of an operation from 0.
pub record Job : Type 0 where
  pub file : File
  pub ops : List Op
  pub turns : List ℕ

-- "A charge file is a job with no operations and no turns"
abbrev pub file_job : File → Job
file_job f = record { file = f; ops = []; turns = [] }

-- what stands where there is no operation
abbrev pub no_op : Op
no_op = record { kind = Search; call = 0; charge = 0 }

-- a delete with the charge `asked` strikes out a call that is there at the charge `held`: it "deletes only where the file's charge is equal", but
-- "with charge zero strikes out as ever"
unfoldable pub strikes : ℕ → ℕ → Bool
strikes asked held = eqb asked 0 || eqb asked held

-- "kind (1 search, 2 insert, 3 delete)"
unfoldable pub kind_number : Kind → ℕ
kind_number Search = 1
kind_number Insert = 2
kind_number Delete = 3

unfoldable pub kind_of : ℕ → Kind
kind_of k = if (eqb k 2) Insert (if (eqb k 3) Delete Search)

-- The counts of a header: g, c, P, U, m and the turn count.
pub record Header : Type 0 where
  pub g : ℕ
  pub c : ℕ
  pub limit : ℕ
  pub used : ℕ
  pub ops : ℕ
  pub turns : ℕ

-- "Header, 32 bytes: version (2 bytes, ..); g (1); c (1); page count P (2); pages in use U (2); operation count m (2); turn count (2);"
abbrev pub header_size : ℕ
header_size = 32

-- "Job version is 2": of jobs and of charge files; a result has a version of its own (Result.antt)
abbrev pub job_version : ℕ
job_version = 2

abbrev pub version_at : ℕ
version_at = 0

abbrev pub g_at : ℕ
g_at = 2

abbrev pub c_at : ℕ
c_at = 3

abbrev pub limit_at : ℕ
limit_at = 4

abbrev pub used_at : ℕ
used_at = 6

abbrev pub op_count_at : ℕ
op_count_at = 8

abbrev pub turn_count_at : ℕ
turn_count_at = 10

-- "then 4 bytes each: offsets of directory, page table, operations and turns, and the total length"
abbrev pub directory_offset_at : ℕ
directory_offset_at = 12

abbrev pub table_offset_at : ℕ
table_offset_at = 16

abbrev pub ops_offset_at : ℕ
ops_offset_at = 20

abbrev pub turns_offset_at : ℕ
turns_offset_at = 24

abbrev pub total_at : ℕ
total_at = 28

-- "Directory: 2 bytes an entry"; "Page, 4 + 8c bytes"; "Operation, 10 bytes"; "Turn: 2 bytes"
abbrev pub entry_size : ℕ
entry_size = 2

abbrev pub record_size : ℕ
record_size = 8

abbrev pub page_size : ℕ → ℕ
page_size c = 4 + record_size * c

abbrev pub op_size : ℕ
op_size = 10

abbrev pub turn_size : ℕ
turn_size = 2

-- "The sections follow in that order with no gap": where each begins, and the total
abbrev pub directory_offset : ℕ
directory_offset = header_size

unfoldable pub table_offset : Header → ℕ
table_offset h = directory_offset + entry_size * 2 ^ h.g

unfoldable pub ops_offset : Header → ℕ
ops_offset h = table_offset h + page_size h.c * h.limit

unfoldable pub turns_offset : Header → ℕ
turns_offset h = ops_offset h + op_size * h.ops

unfoldable pub total : Header → ℕ
total h = turns_offset h + turn_size * h.turns

-- the first byte of entry j, of page x (from 1), of record r (from 0) of a page that begins at p, of operation i, of turn t
unfoldable pub entry_place : ℕ → ℕ
entry_place j = directory_offset + entry_size * j

unfoldable pub page_place : Header → ℕ → ℕ
page_place h x = table_offset h + page_size h.c * (x - 1)

unfoldable pub record_place : ℕ → ℕ → ℕ
record_place p r = p + 4 + record_size * r

unfoldable pub op_place : Header → ℕ → ℕ
op_place h i = ops_offset h + op_size * i

unfoldable pub turn_place : Header → ℕ → ℕ
turn_place h t = turns_offset h + turn_size * t

-- "A charge file is a job with no operations and no turns": its length
unfoldable pub file_length : Header → ℕ
file_length h = ops_offset h
