-- What turns do to the lent table and the working memory: one turn, and the turns of a list one after another.
use Rattle.std.specs.Prelude.{ℕ, zero, suc, ◌+◌, ◌*◌, ◌≤◌, ◌<◌, List, length, get_or, set}
use Rattle.spec.specs.Job.{op_size}
use Rattle.memory.specs.declared.Shape.{Shape}
use Rattle.turn.specs.declared.Row.{Row}
use Rattle.turn.specs.Rows.{blank_row}
use Rattle.turn.specs.Steps.{Out, mem_step}
use Rattle.turn.specs.Safe.{Safe}
use Rattle.reader.specs.Parts.{op_at, turn_at}

-- a table and a memory
pub record Both : Type 0 where
  pub rows : List Row
  pub work : List ℕ

abbrev pub both : List Row → List ℕ → Both
both x w = record { rows = x; work = w }

-- turn t of operation i of the operations `ops`, whose row is r
unfoldable pub moved_on : Shape → List ℕ → ℕ → ℕ → Row → List ℕ → Out
moved_on sh ops t i r w = mem_step sh (op_at ops i) t r w

-- what it asks: the operation stands in its section, turn numbers have 16 bits, and the step may be taken
pub record Moves (sh : Shape) (ops : List ℕ) (t i : ℕ) (r : Row) (w : List ℕ) : Type 0 where
  pub op : op_size * i + op_size ≤ length ops
  pub turn : t < 65536
  pub safe : Safe sh (op_at ops i) r w

-- "One turn is one step of the operation it names": its row is taken out, moved on and put back
unfoldable pub turn_on : Shape → List ℕ → ℕ → ℕ → Both → Both
turn_on sh ops t i s =
    let o : Out = moved_on sh ops t i (get_or s.rows i blank_row) s.work in
    both (set s.rows i o.row) o.work

-- the first k turns of a turn list
unfoldable pub run_turns : Shape → List ℕ → List ℕ → ℕ → Both → Both
run_turns sh ops list zero s = s
run_turns sh ops list (suc k) s = turn_on sh ops k (turn_at list k) (run_turns sh ops list k s)

-- what turn k of the list asks of the table and the memory that it finds
pub record Takes (sh : Shape) (ops list : List ℕ) (k : ℕ) (s : Both) : Type 0 where
  pub row : turn_at list k < length s.rows
  pub moves : Moves sh ops k (turn_at list k) (get_or s.rows (turn_at list k) blank_row) s.work
