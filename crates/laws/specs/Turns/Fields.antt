-- How large the numbers are that the code keeps of each operation, before every turn: the numbers of its stage, and its moment; and that charge, page
-- and moment are 0 before there is an answer. (Turns used: `SpentTurns`.)
use Rattle.std.specs.Prelude.{ℕ, ◌+◌, ◌^◌, ◌<◌, ◌≤◌, ◌≡◌, refl, length, get_or, take, Option}
use Rattle.std.proofs.Math.Logic.{by_cases}
use Rattle.std.proofs.Common.{arith, pow_mono}
use Rattle.std.proofs.Math.Decide.{ℕ_discrete}
use Rattle.spec.specs.declared.Rec.{Rec}
use Rattle.spec.specs.declared.Op.{Op}
use Rattle.spec.specs.declared.Task.{Task}
use Rattle.spec.specs.declared.Task.TheVariants.{Verify, Release, Decide, WritePage, WriteOld, Unlock}
use Rattle.spec.specs.declared.Part.{Part}
use Rattle.spec.specs.declared.Part.TheVariants.{WriteNew, WriteEntry, UnlockNew}
use Rattle.spec.specs.declared.Stage.{Stage}
use Rattle.spec.specs.declared.Stage.TheVariants.{NotBegun, ReadPage, Reread, Lock, Held, Split, Done}
use Rattle.spec.specs.File.{File, page_at}
use Rattle.spec.specs.Job.{Job, no_op, max_depth, max_pages, max_turns}
use Rattle.spec.specs.Code.{not_yet}
use Rattle.spec.specs.State.{Row, State, Answer}
use Rattle.spec.specs.Run.{code_after, charge_after, page_after, moment_after, row_of, stage_of, run}
use Rattle.spec.specs.Proper.{Fit, PageOk, FileOk}
use Rattle.spec.specs.Claims.{state_at}
use Rattle.laws.specs.Turns.Good.{Fine}
use Rattle.laws.specs.Turns.Work.{Work}
use Rattle.laws.specs.Turns.Does.{Own, quiet, sees, sees_none, says}
use Rattle.laws.specs.Turns.Coherent.{i_does}
use Rattle.laws.specs.Turns.Reads.{Reads}
use Rattle.laws.specs.Turns.States.{hist, first_turn, who, state_at_now, row_at}
use Rattle.laws.specs.Turns.Whole.{whole}
use Rattle.laws.specs.Turns.Depths.{plan_most}

-- the numbers of a stage, before turn t
abbrev pub PageField : ℕ → Type 0
PageField x = (0 < x) × (x ≤ max_pages)

abbrev pub TaskFields : Task → Type 0
TaskFields Verify = Unit {0}
TaskFields (Release y) = PageField y
TaskFields Decide = Unit {0}
TaskFields WritePage = Unit {0}
TaskFields WriteOld = Unit {0}
TaskFields Unlock = Unit {0}

abbrev pub PartFields : ℕ → Part → Type 0
PartFields n (WriteNew i) = (0 < i) × (i ≤ n)
PartFields n (WriteEntry j) = j < 2 ^ max_depth
PartFields n UnlockNew = Unit {0}

abbrev pub StageFields : ℕ → Stage → Type 0
StageFields t NotBegun = Unit {0}
StageFields t (ReadPage x) = PageField x
StageFields t (Reread x u) = PageField x × (u < t)
StageFields t (Lock x) = PageField x
StageFields t (Held x k) = PageField x × TaskFields k
StageFields t (Split x b n q) = PageField x × (b + n ≤ max_pages) × (n ≤ max_depth) × PartFields n q
StageFields t Done = Unit {0}

module _ (f : File) (op : Op) (fit : Fit f) (pages : (x : ℕ) → PageOk f.g f.c (page_at f x)) where
  task_fields : (x : ℕ) (t : Task) → Fine f op (Held x t) → TaskFields t
  task_fields x Verify h = tt
  task_fields x (Release y) h = omega (arith, fit.within, fit.most)
  task_fields x Decide h = tt
  task_fields x WritePage h = tt
  task_fields x WriteOld h = tt
  task_fields x Unlock h = tt

  part_fields : (x b n : ℕ) (q : Part) → Fine f op (Split x b n q) → Work f op (Split x b n q) → PartFields n q
  part_fields x b n (WriteNew i) h w = h.1
  part_fields x b n (WriteEntry j) h w = let z = pow_mono {i = f.g} {j = max_depth} fit.depth in omega (arith, w.1.2)
  part_fields x b n UnlockNew h w = tt

  all_fields
      : (H : ℕ → ℕ → Option Rec) (lo : ℕ) (s : State) (t : ℕ) (st : Stage)
      → s.now ≡ t
      → Fine f op st
      → Work f op st
      → Reads H lo s op st
      → StageFields t st
  all_fields H lo s t NotBegun e h w r = tt
  all_fields H lo s t (ReadPage x) e h w r = omega (arith, fit.within, fit.most)
  all_fields H lo s t (Reread x u) e h w r = (omega (arith, fit.within, fit.most), omega (arith, r.1))
  all_fields H lo s t (Lock x) e h w r = omega (arith, fit.within, fit.most)
  all_fields H lo s t (Held x k) e h w r = (omega (arith, fit.within, fit.most), task_fields x k h)
  all_fields H lo s t (Split x b n q) e h w r = (
    omega (arith, h.0.number, fit.within, fit.most),
    omega (arith, h.0.top, fit.within, fit.most),
    omega (arith, h.0.count, plan_most f op x fit (pages x) w.0, fit.depth),
    part_fields x b n q h w,
  )
  all_fields H lo s t Done e h w r = tt

pub stage_fields : (j : Job) → FileOk j.file → (i t : ℕ) → t ≤ length j.turns → StageFields t (stage_of (state_at j t) i)
stage_fields j ok i t l =
    let w = whole j ok t l in
    all_fields (state_at j t).file (get_or j.ops i no_op) w.good.fit w.coherent.pages (hist j) (first_turn j.turns i) (state_at j t) t
    (stage_of (state_at j t) i) (state_at_now j t l) (w.good.fine i) (w.coherent.work i) (w.past.reads i)

-- the state before turn t is where the first t turns end
unfoldable pub cut : Job → ℕ → Job
cut j t = record { file = j.file; ops = j.ops; turns = take t j.turns }

pub cut_run : (j : Job) (t : ℕ) → run (cut j t) ≡ state_at j t
unfolding cut run state_at
cut_run j t = refl

-- a row without an answer has charge 0, page 0 and moment 0
pub record Unanswered (r : Row) : Type 0 where
  pub charge : r.charge ≡ 0
  pub page : r.page ≡ 0
  pub moment : r.moment ≡ 0

-- a turn that answers sets a code
own_blank
    : {s : State} {st : Stage} {op : Op} {a b : Option Rec} {y : ℕ} {z : Answer} (r : Row)
    → Own s st op a b y z
    → code_after z r ≡ not_yet
    → (r.code ≡ not_yet → Unanswered r)
    → (charge_after z r ≡ 0) × (page_after z r ≡ 0) × (moment_after z r ≡ 0)
unfolding code_after charge_after page_after moment_after
own_blank r (quiet e) h u = ((u h).charge, (u h).page, (u h).moment)
own_blank r (sees x w k i j e) h u = absurd (omega arith)
own_blank r (sees_none x t k i j e) h u = absurd (omega arith)
own_blank r (says n v w y) h u = absurd (omega arith)

module _ (j : Job) (ok : FileOk j.file) (i t : ℕ) (l : t ≤ length j.turns) where
  -- the row of operation i before turn t
  abbrev row : Row
  row = row_of (state_at j t) i

  pub unanswered : row.code ≡ not_yet → Unanswered row
  unanswered =
      row_at j (λ u k r. r.code ≡ not_yet → Unanswered r)
      (λ k. (λ z. record { charge = refl; page = refl; moment = refl }, λ z. record { charge = refl; page = refl; moment = refl }))
      (λ u k h. h)
      (λ u v lt e h z.
      let w = whole j ok u (omega arith) in
      let c = own_blank (row_of (state_at j u) (who j u)) (i_does j.ops (state_at j u) (who j u) w.good w.coherent).own z h in
      record { charge = c.0; page = c.1; moment = c.2 })
      t l i

  pub answered-moment : (row.code ≡ not_yet → ⊥) → row.moment < t
  answered-moment n = omega (arith, ((whole j ok t l).past.right i n).1, state_at_now j t l)

  -- of an accepted job's turns
  pub moment_at : length j.turns ≤ max_turns → row.moment < max_turns
  moment_at h =
      by_cases (ℕ_discrete row.code not_yet) (λ z. omega (arith, (unanswered z).moment)) (λ n. let z = answered-moment n in omega arith)
