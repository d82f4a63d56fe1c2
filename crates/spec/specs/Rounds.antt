-- Rounds of turns, and what is claimed of them for every accepted job, given as bytes: so many rounds finish every operation. Definitions only.
use Rattle.std.specs.Prelude.{ℕ, zero, suc, ◌+◌, ◌*◌, ◌<◌, ◌≤◌, ◌≡◌, List, [], ◌∷◌, ◌++◌, length, Some}
use Rattle.spec.specs.declared.Op.{Op}
use Rattle.spec.specs.declared.Kind.TheVariants.{Search}
use Rattle.spec.specs.declared.Stage.TheVariants.{Done}
use Rattle.spec.specs.Basics.{Has}
use Rattle.spec.specs.Bytes.{AreBytes}
use Rattle.spec.specs.Code.{not_yet}
use Rattle.spec.specs.Job.{Job}
use Rattle.spec.specs.Decode.{job_of}
use Rattle.spec.specs.Encode.{encode_file}
use Rattle.spec.specs.State.{State}
use Rattle.spec.specs.Run.{stage_of, run}
use Rattle.spec.specs.Result.{Result, read_result}
use Rattle.spec.specs.Outcome.{result_bytes}
use Rattle.spec.specs.Claims.{Unfinished, answer_at, Accepted}
use Rattle.spec.specs.MostTurns.{longest, most_turns, sharp_turns, under, kind_at}

-- "Let a round be a list in which every operation unfinished at its start has at least one turn": of the job j, from the state s on
abbrev pub Round : Job → State → List ℕ → Type 0
Round j s ts = (i : ℕ) → i < length j.ops → Unfinished s i → Has i ts

-- the list is so many rounds of the job j, one after another: each is a round from the state that those before it lead to
pub data Rounds (j : Job) : ℕ → List ℕ → Type 0 where
  no_round : Rounds j zero []
  one_more : {k : ℕ} {ts us : List ℕ} → Rounds j k ts → Round j (under j ts) us → Rounds j (suc k) (ts ++ us)

-- rounds that anybody can write down: every operation in turn, 0 to m - 1, k times over
unfoldable pub below : ℕ → List ℕ
below zero = []
below (suc m) = below m ++ (m ∷ [])

unfoldable pub in_turn : ℕ → ℕ → List ℕ
in_turn m zero = []
in_turn m (suc k) = in_turn m k ++ below m

-- "In an accepted job with m operations and depth g, m × (2^g + 4g + 6) rounds finish them all"
abbrev pub most_rounds : Job → ℕ
most_rounds j = length j.ops * longest j.file.g

-- Sharper: as many as the operations can use turns, each by its kind
unfoldable pub all_turns : ℕ → List Op → ℕ
all_turns g [] = 0
all_turns g (op ∷ ops) = sharp_turns g op.kind + all_turns g ops

abbrev pub sharp_rounds : Job → ℕ
sharp_rounds j = all_turns j.file.g j.ops

-- every operation of the job j is finished
abbrev pub AllDone : Job → State → Type 0
AllDone j s = (i : ℕ) → i < length j.ops → stage_of s i ≡ Done

-- The result r of the job j lacks nothing: every operation has an answer, none is under way, and there is a charge file, the file after the last
-- turn.
pub record Complete (j : Job) (r : Result) : Type 0 where
  pub answered : (i : ℕ) → i < length j.ops → (answer_at r i).code ≡ not_yet → ⊥
  pub ended : r.unended ≡ 0
  pub file : r.file ≡ Some (encode_file (run j).file)

-- What rounds come to, of the job j under any list, "also one longer than a job can carry"; and of its result r.
pub record GetsDone (j : Job) (r : Result) : Type 0 where
  -- "m × (2^g + 4g + 6) rounds finish them all"
  pub finish : (k : ℕ) (ts : List ℕ) → most_rounds j ≤ k → Rounds j k ts → AllDone j (under j ts)
  -- the same, sharper
  pub sooner : (k : ℕ) (ts : List ℕ) → sharp_rounds j ≤ k → Rounds j k ts → AllDone j (under j ts)
  -- a search, which never waits, is finished when there were as many rounds as it can use turns
  pub searches
      : (k : ℕ) (ts : List ℕ) (i : ℕ)
      → kind_at j i ≡ Search
      → most_turns j.file.g Search ≤ k
      → Rounds j k ts
      → stage_of (under j ts) i ≡ Done
  -- whoever is finished stays so, whatever turns follow
  pub stay : (ts us : List ℕ) (i : ℕ) → stage_of (under j ts) i ≡ Done → stage_of (under j (ts ++ us)) i ≡ Done
  -- and need not be named: where fewer rounds have finished them all, any list is one more
  pub fewer : (k : ℕ) (ts us : List ℕ) → AllDone j (under j ts) → Rounds j k ts → Rounds j (suc k) (ts ++ us)
  -- such lists are there for every number of rounds: every operation in turn, so m turns for each round
  pub in_turns : (k : ℕ) → Rounds j k (in_turn (length j.ops) k)
  -- a job whose own list finishes every operation, in however many rounds, has every answer, and a charge file
  pub complete : AllDone j (run j) → Complete j r
  -- so one whose own list is made of that many rounds has them
  pub answers : (k : ℕ) → most_rounds j ≤ k → Rounds j k j.turns → Complete j r

-- EVERYONE GETS DONE: so it is of every accepted job, given as its bytes, and what is read from the bytes of its result
abbrev pub EveryoneGetsDone : Type 0
EveryoneGetsDone = (b post : List ℕ) → AreBytes b → Accepted b → GetsDone (job_of b) (read_result (result_bytes b ++ post))
