-- What a table and a memory show of a run.
use Rattle.std.specs.Prelude.{◌≡◌, List, ℕ, ◌≤◌, ◌<◌, length, get_or, None}
use Rattle.spec.specs.Bytes.{AreBytes}
use Rattle.spec.specs.Job.{Job}
use Rattle.spec.specs.Decode.{header_of}
use Rattle.spec.specs.Run.{row_of}
use Rattle.spec.specs.Check.{job_fault}
use Rattle.spec.specs.Claims.{state_at}
use Rattle.header.specs.declared.Header.{Header}
use Rattle.header.specs.Counts.{counts_of}
use Rattle.memory.specs.declared.Shape.{Shape}
use Rattle.turn.specs.Rows.{row_image, blank_row}
use Rattle.simulation.specs.Shown.{Shown}
use Rattle.reader.specs.Parts.{ops_in, turns_in}
use Rattle.table.specs.Turns.{Both, run_turns}

abbrev pub shape_for : Header → Shape
shape_for h = record { depth = h.depth; capacity = h.capacity; pages = h.pages }

-- the first k turns of the job b, whose header is h
unfoldable pub all_turns : Header → List ℕ → ℕ → Both → Both
all_turns h b k s = run_turns (shape_for h) (ops_in (counts_of h) b) (turns_in (counts_of h) b) k s

-- h is the header of the bytes b, which are an accepted job
pub record Accepts (h : Header) (b : List ℕ) : Type 0 where
  pub bytes : AreBytes b
  pub accepted : job_fault b ≡ None
  pub counts : counts_of h ≡ header_of b

-- The table and the memory show the job j after its first k turns
pub record Running (j : Job) (k : ℕ) (s : Both) : Type 0 where
  pub shown : Shown (state_at j k) s.work
  pub table : (q : ℕ) → q < length j.ops → get_or s.rows q blank_row ≡ row_image (row_of (state_at j k) q)
  pub room : length j.ops ≤ length s.rows
