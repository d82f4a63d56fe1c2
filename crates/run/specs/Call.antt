-- What a call of `run` comes to.
use Rattle.std.specs.Prelude.{◌≡◌, List, ◌++◌, ℕ, length, drop, replicate, None, Ok}
use Rattle.spec.specs.declared.Stage.TheVariants.{NotBegun}
use Rattle.spec.specs.Decode.{job_of}
use Rattle.spec.specs.State.{blank}
use Rattle.spec.specs.Bytes.{AreBytes}
use Rattle.spec.specs.Result.{result, read_result}
use Rattle.spec.specs.Check.{Lent, first_fault}
use Rattle.spec.specs.Claims.{Explained, PagesTold}
use Rattle.spec.specs.MostTurns.{TurnsWithin}
use Rattle.spec.specs.Rounds.{GetsDone}
use Rattle.spec.specs.Outcome.{Outcome, result_bytes, outcome, buffer_after, rows_after, work_after}
use Rattle.turn.specs.declared.Row.{Row}
use Rattle.turn.specs.Rows.{row_image, blank_row, stage_in}
use Rattle.run.specs.declared.Lent.{Lent as Lengths}

-- the lengths of what is lent, as the code has them; and of these buffers and this table
abbrev pub lengths : Lengths → Lent
lengths l = record { output = l.output; rows = l.rows; work = l.work }

abbrev pub lent : List ℕ → List Row → List ℕ → Lent
lent s x w = record { output = length s; rows = length x; work = length w }

-- the bytes b are a job that meets no row of the refusal table, with s, x and w lent
pub record Accepted (b s : List ℕ) (x : List Row) (w : List ℕ) : Type 0 where
  pub bytes : AreBytes b
  pub faultless : first_fault (lent s x w) b ≡ None

-- the accepted job b is run: its result stands first in the result buffer, which was s, and has v bytes; table and memory are cleared
pub record Ran (b s t : List ℕ) (x y : List Row) (w u : List ℕ) (v : ℕ) : Type 0 where
  pub total : v ≡ length (result_bytes b)
  pub result : t ≡ result_bytes b ++ drop (length (result_bytes b)) s
  pub rows : y ≡ replicate (length x) blank_row
  pub work : u ≡ replicate (length w) 0

-- DEMAND 3 OF THE BYTES THAT ARE WRITTEN, the pages and turns used that are told in them, and how many rounds finish the job: the job b ran, the call
-- answered r, and the result buffer is now t
pub record Written (b t : List ℕ) (r : Outcome) : Type 0 where
  -- what is read from the buffer is the job's result: each number fits its field
  pub reads : read_result t ≡ result (job_of b)
  -- the total in its header is the length that is told
  pub total : r ≡ Ok (read_result t).total
  -- its log explains every answer
  pub explained : Explained (job_of b) (read_result t)
  -- and what is claimed of the pages told with its answers
  pub told : PagesTold (job_of b) (read_result t)
  -- and of the turns used: no operation has more than its kind can use
  pub within : TurnsWithin (job_of b) (read_result t)
  -- and of rounds of turns: so many finish every operation, and then the result has every answer and a charge file
  pub done : GetsDone (job_of b) (read_result t)

-- The whole outcome for the bytes b, accepted or refused: what is answered, and the result buffer, the table and the memory afterwards, which
-- were s, x and w; and where no row of the refusal table holds, so that the job is run, demand 3 and all else that is claimed of the result that is
-- now in the buffer
pub record Settled (b s t : List ℕ) (x y : List Row) (w u : List ℕ) (r : Outcome) : Type 0 where
  pub answer : r ≡ outcome (lent s x w) b
  pub result : t ≡ buffer_after (lent s x w) b s
  pub rows : y ≡ rows_after blank_row (lent s x w) b x
  pub work : u ≡ work_after (lent s x w) b w
  -- the rows' fixed value "stands for an operation not begun": it is that row in numbers, and its numbers say so
  pub fixed : (blank_row ≡ row_image blank) × (stage_in blank_row ≡ NotBegun)
  pub written : first_fault (lent s x w) b ≡ None → Written b t r
