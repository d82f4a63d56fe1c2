-- What is claimed of the turn list that is dealt for a job, and of the job that is written with it. Definitions only.
use Rattle.std.specs.Prelude.{ℕ, ◌+◌, ◌-◌, ◌*◌, ◌<◌, ◌≤◌, ◌≡◌, List, [], ◌++◌, length, get_or, take, drop, None}
use Rattle.spec.specs.Basics.{each}
use Rattle.spec.specs.Bytes.{two, four, AreBytes}
use Rattle.spec.specs.Job.{Job, header_size, turn_count_at, total_at, turn_size}
use Rattle.spec.specs.Decode.{job_of}
use Rattle.spec.specs.Run.{run}
use Rattle.spec.specs.Result.{read_result}
use Rattle.spec.specs.Outcome.{result_bytes}
use Rattle.spec.specs.Deal.{max_dealt, dealt_by, dealt, dealt_job, dealt_bytes, turns_present}
use Rattle.spec.specs.Claims.{state_at, Unfinished, Waits, Accepted}
use Rattle.spec.specs.Rounds.{AllDone, Complete}

-- What is claimed of the list that is dealt for the job j.
pub record DealtWell (j : Job) : Type 0 where
  -- "No turn of it waits", and none is for a finished operation
  pub no_wait : (t : ℕ) → t < length (dealt j) → Waits (state_at (dealt_job j) t) (get_or (dealt j) t 0) → ⊥
  pub unfinished : (t : ℕ) → t < length (dealt j) → Unfinished (state_at (dealt_job j) t) (get_or (dealt j) t 0)
  -- "The list never has more than 10,238 turns, so it fits every job's limit"
  pub fits : length (dealt j) ≤ max_dealt
  -- "It stops when all have finished"
  pub done : AllDone j (run (dealt_job j))
  -- and for no other reason: with more rounds than there may be the list would be the same
  pub whole : (n : ℕ) → max_dealt ≤ n → dealt_by n j ≡ dealt j
  -- "a job without operations gets an empty list"
  pub empty : j.ops ≡ [] → dealt j ≡ []

-- What is claimed of the job that is written for the bytes b.
pub record DealtWritten (b : List ℕ) : Type 0 where
  pub list : DealtWell (job_of b)
  -- "the same job with a list": it is accepted, and says so
  pub accepted : Accepted (dealt_bytes b)
  pub says : job_of (dealt_bytes b) ≡ dealt_job (job_of b)
  -- byte for byte: all is as it was but the turn count and the total, and the list stands behind
  pub bytes
      : dealt_bytes b
      ≡ take turn_count_at b
      ++ two (length (dealt (job_of b)))
      ++ take (total_at - (turn_count_at + 2)) (drop (turn_count_at + 2) b)
      ++ four (length b + turn_size * length (dealt (job_of b)))
      ++ drop header_size b
      ++ each two (dealt (job_of b))
  -- "every operation has an answer when it is run, and there is a charge file"
  pub complete : (post : List ℕ) → Complete (dealt_job (job_of b)) (read_result (result_bytes (dealt_bytes b) ++ post))

-- TURNS DEALT: so it is of every job that is accepted and has no turns, given as its bytes
abbrev pub DealsTurns : Type 0
DealsTurns = (b : List ℕ) → AreBytes b → Accepted b → turns_present b ≡ None → DealtWritten b
