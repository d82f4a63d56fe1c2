-- How many turns an operation can use, by its kind and the directory's depth; and what is claimed of it for every accepted job, given as bytes.
-- Definitions only.
use Rattle.std.specs.Prelude.{ℕ, zero, suc, ◌+◌, ◌*◌, ◌^◌, ◌≤◌, ◌≡◌, List, ◌++◌, get_or}
use Rattle.spec.specs.declared.Kind.{Kind}
use Rattle.spec.specs.declared.Kind.TheVariants.{Search, Insert, Delete}
use Rattle.spec.specs.Bytes.{AreBytes}
use Rattle.spec.specs.Job.{Job, no_op}
use Rattle.spec.specs.Decode.{job_of}
use Rattle.spec.specs.State.{State}
use Rattle.spec.specs.Run.{row_of, run}
use Rattle.spec.specs.Result.{Result, read_result}
use Rattle.spec.specs.Outcome.{result_bytes}
use Rattle.spec.specs.Claims.{answer_at, Accepted}

-- "no other operation more than 2^g + 4g + 6 that are not waiting"
unfoldable pub longest : ℕ → ℕ
longest g = 2 ^ g + 4 * g + 6

-- "No search uses more than 2g + 3 turns, and no other operation more than 2^g + 4g + 6"
unfoldable pub most_turns : ℕ → Kind → ℕ
most_turns g Search = 2 * g + 3
most_turns g Insert = longest g
most_turns g Delete = longest g

-- Sharper, and reached at every depth: a delete splits no page; an insert that had to begin anew finds a deeper page, of which it has less to split,
-- and at depth 0 there is no split at all
unfoldable pub sharp_turns : ℕ → Kind → ℕ
sharp_turns g Search = 2 * g + 3
sharp_turns zero Insert = 6
sharp_turns (suc g) Insert = 2 ^ suc g + suc g + 6
sharp_turns g Delete = 3 * g + 6

-- "No operation of an accepted job, whatever its list, uses more than 294 (depth 8)"
abbrev pub most_used : ℕ
most_used = 294

-- a job with another list in place of its own: "under a list of any length, also one longer than a job can carry". Before turn t of its own list it is
-- under the first t turns, and at the end under all of them
unfoldable pub under : Job → List ℕ → State
under j ts = run (record { file = j.file; ops = j.ops; turns = ts })

-- by operation i of the job j: turns used under the list ts; and its kind
abbrev pub used_by : Job → List ℕ → ℕ → ℕ
used_by j ts i = (row_of (under j ts) i).used

abbrev pub kind_at : Job → ℕ → Kind
kind_at j i = (get_or j.ops i no_op).kind

-- The turns that the operations of the job j use under any list, and that its result r tells.
pub record TurnsWithin (j : Job) (r : Result) : Type 0 where
  -- "No search uses more than 2g + 3 turns, and no other operation more than 2^g + 4g + 6"
  pub most : (ts : List ℕ) (i : ℕ) → used_by j ts i ≤ most_turns j.file.g (kind_at j i)
  -- the same, as sharp as it can be
  pub sharp : (ts : List ℕ) (i : ℕ) → used_by j ts i ≤ sharp_turns j.file.g (kind_at j i)
  -- "whatever its list, .. more than 294"
  pub narrow : (ts : List ℕ) (i : ℕ) → used_by j ts i ≤ most_used
  -- "The counts are those in the result"
  pub counts : (i : ℕ) → (answer_at r i).used ≡ used_by j j.turns i
  pub told : (i : ℕ) → (answer_at r i).used ≤ most_turns j.file.g (kind_at j i)

-- HOW MANY TURNS AN OPERATION USES AT MOST: so it is of every accepted job, given as its bytes, and what is read from the bytes of its result
abbrev pub MostTurns : Type 0
MostTurns = (b post : List ℕ) → AreBytes b → Accepted b → TurnsWithin (job_of b) (read_result (result_bytes b ++ post))
