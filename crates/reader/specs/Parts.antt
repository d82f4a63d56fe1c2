-- "A job reader keeps the lent bytes beside its counts, and shows each section as that part of them": the four parts of the bytes b of a job
-- whose counts are h; and what an operations section and a turn list say.
use Rattle.std.specs.Prelude.{ℕ, ◌-◌, ◌*◌, List, take, drop}
use Rattle.spec.specs.declared.Op.{Op}
use Rattle.spec.specs.Bytes.{word}
use Rattle.spec.specs.Job.{Header as Counts, directory_offset, table_offset, ops_offset, turns_offset, total, op_size, turn_size}
use Rattle.spec.specs.Decode.{op_of}

-- the bytes from one place to another
abbrev pub between : ℕ → ℕ → List ℕ → List ℕ
between a e b = take (e - a) (drop a b)

unfoldable pub directory_in : Counts → List ℕ → List ℕ
directory_in h b = between directory_offset (table_offset h) b

unfoldable pub table_in : Counts → List ℕ → List ℕ
table_in h b = between (table_offset h) (ops_offset h) b

unfoldable pub ops_in : Counts → List ℕ → List ℕ
ops_in h b = between (ops_offset h) (turns_offset h) b

unfoldable pub turns_in : Counts → List ℕ → List ℕ
turns_in h b = between (turns_offset h) (total h) b

-- operation i of an operations section
unfoldable pub op_at : List ℕ → ℕ → Op
op_at s i = op_of (take op_size (drop (op_size * i) s))

-- the operation that turn t of a turn list names
unfoldable pub turn_at : List ℕ → ℕ → ℕ
turn_at s t = word s (turn_size * t)
