-- "Turns dealt for the site": the turn list that is made for a job with operations and no turns, and what is refused.
use Rattle.std.specs.Prelude.{ℕ, zero, suc, ◌+◌, ◌*◌, List, [], ◌∷◌, ◌++◌, Bool, true, false, not, length, eqb, Option}
use Rattle.spec.specs.declared.Op.{Op}
use Rattle.spec.specs.declared.Stage.{Stage}
use Rattle.spec.specs.declared.Stage.TheVariants.{NotBegun, ReadPage, Reread, Lock, Held, Split, Done}
use Rattle.spec.specs.Basics.{if, when, or_else, all_of}
use Rattle.spec.specs.Job.{Job, turn_count_at, turn_size}
use Rattle.spec.specs.Encode.{encode_job}
use Rattle.spec.specs.Decode.{header_of, job_of}
use Rattle.spec.specs.State.{Row, State}
use Rattle.spec.specs.Run.{stage_of, idle, step, start, steps}
use Rattle.spec.specs.Check.{Lent, Fault, numbered, small_for, job_fault}
use Rattle.spec.specs.Outcome.{Outcome, outcome_by, buffer_by, rows_by, work_by}

-- "The list never has more than 10,238 turns". So there are no more rounds than that, since each of them deals a turn
abbrev pub max_dealt : ℕ
max_dealt = 10238

-- an operation at this stage has finished; all have
unfoldable pub is_done : Stage → Bool
is_done NotBegun = false
is_done (ReadPage x) = false
is_done (Reread x t) = false
is_done (Lock x) = false
is_done (Held x t) = false
is_done (Split x b n q) = false
is_done Done = true

unfoldable pub all_done : State → Bool
all_done s = all_of (λ (r : Row). is_done r.stage) s.rows

-- "by rising operation number: each unfinished operation gets one turn, and one that would only wait at that moment is passed over until the
-- next round": the turns that a round deals to the n operations from i on. Who is idle, because it would wait or is finished, is asked of the state
-- after the turns dealt so far
unfoldable pub round_from : List Op → ℕ → ℕ → State → List ℕ
round_from ops zero i s = []
round_from ops (suc n) i s =
    let passed = round_from ops n (suc i) s in
    let given = i ∷ round_from ops n (suc i) (step ops s i) in
    if (idle s.locks (stage_of s i)) passed given

unfoldable pub round : List Op → State → List ℕ
round ops s = round_from ops (length ops) 0 s

-- "dealt in rounds"; "It stops when all have finished". There are n rounds at most
unfoldable pub rounds : ℕ → List Op → State → List ℕ
rounds zero ops s = []
rounds (suc n) ops s =
    let dealt = round ops s in
    let more = dealt ++ rounds n ops (steps ops s dealt) in
    if (all_done s) [] more

-- the list of the job j, from its start
unfoldable pub dealt_by : ℕ → Job → List ℕ
dealt_by n j = rounds n j.ops (start j.file (length j.ops))

unfoldable pub dealt : Job → List ℕ
dealt j = dealt_by max_dealt j

-- "the same job with a list"
abbrev pub dealt_job : Job → Job
dealt_job j = record { file = j.file; ops = j.ops; turns = dealt j }

-- "the library writes the same job with a list": the bytes
unfoldable pub dealt_bytes : List ℕ → List ℕ
dealt_bytes b = encode_job (dealt_job (job_of b))

-- 21: "turns present, at their count"
unfoldable pub turns_present : List ℕ → Option ℕ
turns_present b = when (not (eqb (header_of b).turns 0)) turn_count_at

-- 11: "the buffer is under the job's length and 20,476 bytes more (place 0), or the table or working memory is under what a run needs (places 1 and 2)"
unfoldable pub small_for_deal : Lent → List ℕ → Option ℕ
small_for_deal l b = small_for (length b + turn_size * max_dealt) l b

-- "21 .. after the job's own refusals, then 11"
unfoldable pub deal_fault : Lent → List ℕ → Option Fault
deal_fault l b =
    let last = numbered 11 (small_for_deal l b) in
    let turns = or_else (numbered 21 (turns_present b)) last in
    or_else (job_fault b) turns

-- what a call comes to
unfoldable pub deal_outcome : Lent → List ℕ → Outcome
deal_outcome l b =
    let output = dealt_bytes b in
    outcome_by (deal_fault l b) output

-- and what is lent, afterwards: the buffer; and the table and the working memory, "Those two are left as after a run"
unfoldable pub deal_buffer : Lent → List ℕ → List ℕ → List ℕ
deal_buffer l b buffer =
    let output = dealt_bytes b in
    buffer_by (deal_fault l b) output buffer

unfoldable pub deal_rows : {A : Type 0} → A → Lent → List ℕ → List A → List A
deal_rows fixed l b rows = rows_by (deal_fault l b) fixed rows

unfoldable pub deal_work : Lent → List ℕ → List ℕ → List ℕ
deal_work l b work = work_by (deal_fault l b) work
