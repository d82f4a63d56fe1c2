-- Demand 3 as one record, `Explained`, of a job and a result; and what is claimed: it holds for every accepted job, given as bytes, and the result
-- that is read from the bytes that are written. Then, for every accepted job, that calls rise in every page, `InOrder`; and of the pages that are
-- told with the answers, `PagesTold`. Definitions only.
use Rattle.std.specs.Prelude.{ℕ, suc, ◌<◌, ◌≤◌, ◌≡◌, ◌⊎◌, ◌↔◌, List, [], ◌∷◌, ◌++◌, map, true, length, get_or, take, eqb, Option, None, Some}
use Rattle.spec.specs.declared.Rec.{Rec}
use Rattle.spec.specs.declared.Op.{Op}
use Rattle.spec.specs.declared.Kind.TheVariants.{Search}
use Rattle.spec.specs.declared.Task.TheVariants.{Decide}
use Rattle.spec.specs.declared.Stage.{Stage}
use Rattle.spec.specs.declared.Stage.TheVariants.{ReadPage, Held, Done}
use Rattle.spec.specs.Basics.{if, Has}
use Rattle.spec.specs.Bytes.{AreBytes}
use Rattle.spec.specs.Code.{not_yet, found, not_found, stored, no_depth, no_page}
use Rattle.spec.specs.File.{File, page_at, find_in, look_in, contents}
use Rattle.spec.specs.Job.{Job, file_job, no_op}
use Rattle.spec.specs.Decode.{job_of}
use Rattle.spec.specs.State.{State}
use Rattle.spec.specs.Turn.{entry_of, rec_of}
use Rattle.spec.specs.Run.{idle, stage_of, steps, start, run}
use Rattle.spec.specs.Result.{Told, Line, Result, read_result}
use Rattle.spec.specs.PlainList.{NoneTwice, reply_of, nothing_told, Replay, replay}
use Rattle.spec.specs.Check.{job_fault}
use Rattle.spec.specs.Outcome.{result_bytes}
use Rattle.spec.specs.Proper.{PageNo, CallsRise}

-- the state after the first t turns, that is before turn t (turns count from 0)
unfoldable pub state_at : Job → ℕ → State
state_at j t = steps j.ops (start j.file (length j.ops)) (take t j.turns)

-- "one not begun is unfinished", and so is every other that has not had its last turn
abbrev pub Unfinished : State → ℕ → Type 0
Unfinished s i = stage_of s i ≡ Done → ⊥

-- "An operation's first turn is the first that names it"
pub record FirstTurn (j : Job) (i t : ℕ) : Type 0 where
  pub within : t < length j.turns
  pub named : get_or j.turns t 0 ≡ i
  pub not_before : (u : ℕ) → u < t → get_or j.turns u 0 ≡ i → ⊥

-- "it ended on the turn that finished it"
pub record Ended (j : Job) (i t : ℕ) : Type 0 where
  pub within : t < length j.turns
  pub before : Unfinished (state_at j t) i
  pub after : stage_of (state_at j (suc t)) i ≡ Done

-- "An unfinished operation can use a turn if the next turn, given to it, would not wait": that it would wait
pub record Waits (s : State) (i : ℕ) : Type 0 where
  pub unfinished : Unfinished s i
  pub idles : idle s.locks (stage_of s i) ≡ true

-- how many lines of a log name operation i
unfoldable pub times : ℕ → List Line → ℕ
times i [] = 0
times i (h ∷ hs) = if (eqb h.op i) (suc (times i hs)) (times i hs)

-- "by moment, then operation": one line stands before another
abbrev pub Before : Line → Line → Type 0
Before a b = (a.moment < b.moment) ⊎ ((a.moment ≡ b.moment) × (a.op < b.op))

-- of a result: the line of its log at place p, and the answer of operation i; and the job's operation that line p names
abbrev pub no_line : Line
no_line = record { moment = 0; op = 0 }

abbrev pub line_at : Result → ℕ → Line
line_at r p = get_or r.log p no_line

unfoldable pub answer_at : Result → ℕ → Told
answer_at r i = get_or r.answers i nothing_told

abbrev pub op_at : Job → Result → ℕ → Op
op_at j r p = get_or j.ops (line_at r p).op no_op

-- the plain list, which "starts as what the file held when it came in", fed the first n lines of the log: its replies, and the list then
unfoldable pub fed : Job → Result → ℕ → Replay
fed j r n = replay j.ops r.answers (take n r.log) (contents j.file)

-- the bytes meet no row of the refusal table that is about them (row 11 is about what is lent)
abbrev pub Accepted : List ℕ → Type 0
Accepted b = job_fault b ≡ None

-- the bytes b are accepted as a job by themselves, and as a job they are the file f
abbrev pub IsFile : List ℕ → File → Type 0
IsFile b f = Accepted b × (job_of b ≡ file_job f)

-- The turn list of the job j is explained by the log of the result r, on the plain list.
pub record Explained (j : Job) (r : Result) : Type 0 where
  -- an answer for each operation
  pub count : length r.answers ≡ length j.ops
  -- "Line for line, its code and charge equal those in the result"
  pub answers : (fed j r (length r.log)).replies ≡ map (λ h. reply_of (answer_at r h.op)) r.log
  -- an insert told 7 or 8 finds its call missing, and changes nothing
  pub refused
      : (p : ℕ)
      → p < length r.log
      → ((answer_at r (line_at r p).op).code ≡ no_depth) ⊎ ((answer_at r (line_at r p).op).code ≡ no_page)
      → (find_in (fed j r p).list (op_at j r p).call ≡ None) × ((fed j r (suc p)).list ≡ (fed j r p).list)
  -- "the log has each operation whose code is not 0 once, and no other"
  pub once : (i : ℕ) → ((answer_at r i).code ≡ not_yet → ⊥) → times i r.log ≡ 1
  pub no_other : (i : ℕ) → (answer_at r i).code ≡ not_yet → times i r.log ≡ 0
  -- "by moment, then operation"
  pub sorted : (p q : ℕ) → p < q → q < length r.log → Before (line_at r p) (line_at r q)
  -- "At the end a call with its charge is in it exactly when the file after the last turn .. holds them, in whatever order"
  pub held : (c : Rec) → Has c (fed j r (length r.log)).list ↔ Has c (contents (run j).file)
  -- "a charge file in the result is that file"
  pub charged : (b : List ℕ) → r.file ≡ Some b → IsFile b (run j).file
  -- "no call twice": in the list and in the file, at any time
  pub list_once : (n : ℕ) → NoneTwice (fed j r n).list
  pub file_once : (t : ℕ) → t ≤ length j.turns → NoneTwice (contents (state_at j t).file)
  -- real-time order is kept: of two operations in the log, one that ended before the other's first turn stands first
  pub order
      : (p q t u : ℕ)
      → p < length r.log
      → q < length r.log
      → Ended j (line_at r p).op t
      → FirstTurn j (line_at r q).op u
      → t < u
      → p < q
  -- no search waits: at no time would a search's next turn wait
  pub searches : (t i : ℕ) → t ≤ length j.turns → (get_or j.ops i no_op).kind ≡ Search → Waits (state_at j t) i → ⊥
  -- some unfinished operation can always use a turn: at every time, if one is unfinished
  pub progress
      : (t i : ℕ)
      → t ≤ length j.turns
      → i < length j.ops
      → Unfinished (state_at j t) i
      → (k : ℕ) × (k < length j.ops) × Unfinished (state_at j t) k × (Waits (state_at j t) k → ⊥)
  -- a finished operation has an answer
  pub finished : (i : ℕ) → i < length j.ops → stage_of (run j) i ≡ Done → (answer_at r i).code ≡ not_yet → ⊥

-- DEMAND 3: every accepted job, given as its bytes, whatever its turns and wherever they stop; and what is read from the bytes of its result,
-- whatever stands behind them
abbrev pub Demand3 : Type 0
Demand3 = (b post : List ℕ) → AreBytes b → Accepted b → Explained (job_of b) (read_result (result_bytes b ++ post))

-- Calls rise in the pages of the job j: at every time, in every page x of the table, also one that no entry names.
pub record InOrder (j : Job) : Type 0 where
  -- "records in every page stand by rising call number, in files read and written": read, at time 0; written, at the last (`Explained.charged`)
  pub pages_rise : (t x : ℕ) → t ≤ length j.turns → CallsRise (page_at (state_at j t).file x).records
  -- "Looking for a call in a page may then stop at the first higher number, and finds what it found before"
  pub looks
      : (t x k : ℕ)
      → t ≤ length j.turns
      → look_in (page_at (state_at j t).file x).records k ≡ find_in (page_at (state_at j t).file x).records k

-- CALLS RISE IN EVERY PAGE: so it is in every accepted job, given as its bytes, whatever its turns and wherever they stop
abbrev pub PagesInOrder : Type 0
PagesInOrder = (b : List ℕ) → Accepted b → InOrder (job_of b)

-- turn t was operation i's, which stood at this stage
pub record Stood (j : Job) (i : ℕ) (st : Stage) (t : ℕ) : Type 0 where
  pub within : t < length j.turns
  pub named : get_or j.turns t 0 ≡ i
  pub stage : stage_of (state_at j t) i ≡ st

-- "the page last read by a search" is x, and the reading was turn t
pub record LastRead (j : Job) (i x t : ℕ) : Type 0 where
  pub read : Stood j i (ReadPage x) t
  pub last : (y u : ℕ) → Stood j i (ReadPage y) u → u ≤ t

-- the file after the turn of line p, that is at the moment of its operation
unfoldable pub file_then : Job → Result → ℕ → File
file_then j r p = (state_at j (suc (line_at r p).moment)).file

-- what page x of a file has of a call
abbrev pub in_page : File → ℕ → ℕ → Option Rec
in_page f x k = find_in (page_at f x).records k

-- the call of operation i
abbrev pub call_at : Job → ℕ → ℕ
call_at j i = (get_or j.ops i no_op).call

-- of a result: the page told for operation i, and for the operation of line p
abbrev pub told_at : Result → ℕ → ℕ
told_at r i = (answer_at r i).page

abbrev pub line_told : Result → ℕ → ℕ
line_told r p = told_at r (line_at r p).op

-- The pages that the result r of the job j tells with its answers, for "service people [who] look at the page behind an answer".
pub record PagesTold (j : Job) (r : Result) : Type 0 where
  -- no page for code 0, and with every other a page that is in use at the end
  pub untold : (i : ℕ) → (answer_at r i).code ≡ not_yet → told_at r i ≡ 0
  pub in_use : (i : ℕ) → ((answer_at r i).code ≡ not_yet → ⊥) → PageNo (run j).file (told_at r i)
  -- "the page last read by a search": where it found its call, the page had it then, with the charge told
  pub finds
      : (i : ℕ)
      → (answer_at r i).code ≡ found
      → (t : ℕ)
      × LastRead j i (told_at r i) t
      × (in_page (state_at j t).file (told_at r i) (call_at j i) ≡ Some (record { call = call_at j i; charge = (answer_at r i).charge }))
  -- and where it found none, the page did not have it; that reading is the moment
  pub lacks
      : (p : ℕ)
      → p < length r.log
      → (answer_at r (line_at r p).op).code ≡ not_found
      → LastRead j (line_at r p).op (line_told r p) (line_at r p).moment
      × (in_page (state_at j (line_at r p).moment).file (line_told r p) (op_at j r p).call ≡ None)
  -- "the page that holds the call at a stored insert's moment"
  pub holds
      : (p : ℕ)
      → p < length r.log
      → (answer_at r (line_at r p).op).code ≡ stored
      → in_page (file_then j r p) (line_told r p) (op_at j r p).call ≡ Some (rec_of (op_at j r p))
  -- "the page read in turn (d) by the rest"
  pub decides
      : (i : ℕ)
      → ((get_or j.ops i no_op).kind ≡ Search → ⊥)
      → ((answer_at r i).code ≡ not_yet → ⊥)
      → ((answer_at r i).code ≡ stored → ⊥)
      → (t : ℕ) × Stood j i (Held (told_at r i) Decide) t
  -- the page of an insert or a delete is the one that the call's own entry names at its moment
  pub names
      : (p : ℕ)
      → p < length r.log
      → ((op_at j r p).kind ≡ Search → ⊥)
      → entry_of (file_then j r p) (op_at j r p) ≡ line_told r p

-- THE PAGE WITH THE ANSWER: so it is of every accepted job, given as its bytes, and what is read from the bytes of its result
abbrev pub PagesBehind : Type 0
PagesBehind = (b post : List ℕ) → AreBytes b → Accepted b → PagesTold (job_of b) (read_result (result_bytes b ++ post))
