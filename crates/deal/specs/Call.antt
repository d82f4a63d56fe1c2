-- What a call of `deal` comes to.
use Rattle.std.specs.Prelude.{◌≡◌, List, ◌++◌, ℕ, length, drop, replicate, None}
use Rattle.spec.specs.Outcome.{Outcome}
use Rattle.spec.specs.declared.Stage.TheVariants.{NotBegun}
use Rattle.spec.specs.State.{blank}
use Rattle.spec.specs.Bytes.{AreBytes}
use Rattle.spec.specs.Deal.{dealt_bytes, deal_fault, deal_outcome, deal_buffer, deal_rows, deal_work}
use Rattle.spec.specs.Dealt.{DealtWritten}
use Rattle.turn.specs.declared.Row.{Row}
use Rattle.turn.specs.Rows.{row_image, blank_row, stage_in}
use Rattle.run.specs.Call.{lent}

-- the bytes b are a job for which turns are dealt, with s, x and w lent
pub record Accepted (b s : List ℕ) (x : List Row) (w : List ℕ) : Type 0 where
  pub bytes : AreBytes b
  pub faultless : deal_fault (lent s x w) b ≡ None

-- turns are dealt for the job b: it stands with its list first in the output buffer, which was s, and has v bytes; table and memory are cleared
pub record Dealt (b s t : List ℕ) (x y : List Row) (w u : List ℕ) (v : ℕ) : Type 0 where
  pub total : v ≡ length (dealt_bytes b)
  pub output : t ≡ dealt_bytes b ++ drop (length (dealt_bytes b)) s
  pub rows : y ≡ replicate (length x) blank_row
  pub work : u ≡ replicate (length w) 0

-- The whole outcome for the bytes b, done or refused: what is answered, and the output buffer, the table and the memory afterwards, which were s, x
-- and w; and where nothing is refused, all that is claimed of the job that is written
pub record Settled (b s t : List ℕ) (x y : List Row) (w u : List ℕ) (r : Outcome) : Type 0 where
  pub answer : r ≡ deal_outcome (lent s x w) b
  pub output : t ≡ deal_buffer (lent s x w) b s
  pub rows : y ≡ deal_rows blank_row (lent s x w) b x
  pub work : u ≡ deal_work (lent s x w) b w
  -- the rows' fixed value "stands for an operation not begun", as after a run
  pub fixed : (blank_row ≡ row_image blank) × (stage_in blank_row ≡ NotBegun)
  pub dealt : deal_fault (lent s x w) b ≡ None → DealtWritten b
