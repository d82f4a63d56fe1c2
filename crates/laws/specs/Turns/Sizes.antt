-- How long the log is, how many turns an operation has used, and how large its code is: what the result's writer has to fit in.
use Rattle.std.specs.Prelude.{ℕ, zero, suc, ◌+◌, ◌<◌, ◌≤◌, ◌≡◌, refl, List, [], ◌∷◌, length, eqb}
use Rattle.std.proofs.Math.Path.{sym}
use Rattle.std.proofs.Common.{ap, ◌∙◌, arith, eqb-true}
use Rattle.std.proofs.Math.Logic.{by_cases}
use Rattle.std.proofs.Math.Decide.{ℕ_discrete}
use Rattle.std.proofs.lemmas.Bool.{eqb-false}
use Rattle.spec.specs.Basics.{if, Each}
use Rattle.spec.specs.File.{File}
use Rattle.spec.specs.Job.{Job}
use Rattle.spec.specs.Code.{not_yet}
use Rattle.spec.specs.State.{State}
use Rattle.spec.specs.Run.{row_of, start, run}
use Rattle.spec.specs.Result.{Line, log_of, result_of, result}
use Rattle.spec.specs.Proper.{FileOk}
use Rattle.spec.specs.Claims.{times}
use Rattle.laws.specs.Tools.{if_case, first, rest, each_imp}
use Rattle.laws.specs.Turns.Rows.{step_case, steps_keep}
use Rattle.laws.specs.Turns.Says.{says-code}
use Rattle.laws.specs.Turns.Whole.{Whole, end_whole}
use Rattle.laws.specs.Turns.Log.{times-nil, times-cons, times_skip, log-once, log_other, log-rows}

-- the lines of a log that name one of the first m operations
unfoldable tally : ℕ → List Line → ℕ
tally zero hs = 0
tally (suc m) hs = tally m hs + times m hs

tally_nil : (m : ℕ) → tally m [] ≡ 0
unfolding tally
tally_nil zero = refl
tally_nil (suc m) = let a = tally_nil m in let b = times-nil m in omega arith

tally_skip : (m : ℕ) (h : Line) (hs : List Line) → m ≤ h.op → tally m (h ∷ hs) ≡ tally m hs
unfolding tally
tally_skip zero h hs l = refl
tally_skip (suc m) h hs l = let a = tally_skip m h hs (omega arith) in let b = times_skip m h hs (λ e. omega arith) in omega arith

tally_cons : (m : ℕ) (h : Line) (hs : List Line) → h.op < m → tally m (h ∷ hs) ≡ suc (tally m hs)
unfolding tally
tally_cons zero h hs l = absurd (omega arith)
tally_cons (suc m) h hs l =
    by_cases (ℕ_discrete h.op m) (λ (e : h.op ≡ m). let a = tally_skip m h hs (omega arith) in let b = times-cons m h hs e in omega arith)
    (λ e. let a = tally_cons m h hs (omega arith) in let b = times_skip m h hs e in omega arith)

tally_length : (m : ℕ) (hs : List Line) → Each (λ h. h.op < m) hs → tally m hs ≡ length hs
tally_length m [] e = tally_nil m
tally_length m (h ∷ hs) e = tally_cons m h hs (first e) ∙ ap suc (tally_length m hs (rest e))

-- how many of the first m operations have a code other than 0
unfoldable answered : State → ℕ → ℕ
answered s zero = 0
answered s (suc m) = if (eqb (row_of s m).code not_yet) (answered s m) (suc (answered s m))

answered-le : (s : State) (m : ℕ) → answered s m ≤ m
unfolding answered
answered-le s zero = omega arith
answered-le s (suc m) = let h = answered-le s m in if_case (λ n. n ≤ suc m) (λ e. omega arith) (λ e. omega arith)

tally_answered
    : (s : State)
    → ((i : ℕ) → ((row_of s i).code ≡ not_yet → ⊥) → (row_of s i).moment < s.now)
    → (m : ℕ)
    → tally m (log_of s) ≡ answered s m
unfolding tally answered
tally_answered s h zero = refl
tally_answered s h (suc m) =
    let a = tally_answered s h m in
    if_case (λ n. tally m (log_of s) + times m (log_of s) ≡ n) (λ e. let b = log_other s m (eqb-true _ _ e) in omega arith)
    (λ e. let n : (row_of s m).code ≡ not_yet → ⊥ = eqb-false _ _ e in let b = log-once s m n (h m n) in omega arith)

-- no turn changes depth, capacity and page count
pub record Shaped (f : File) (s : State) : Type 0 where
  pub depth : s.file.g ≡ f.g
  pub capacity : s.file.c ≡ f.c
  pub limit : s.file.limit ≡ f.limit

pub run_shaped : (j : Job) → Shaped j.file (run j)
unfolding run start
run_shaped j =
    steps_keep (Shaped j.file) j.ops
    (λ s i h.
    step_case (Shaped j.file) j.ops s i (record { depth = h.depth; capacity = h.capacity; limit = h.limit })
    (λ l e. record { depth = h.depth; capacity = h.capacity; limit = h.limit })) _ j.turns
    (record { depth = refl; capacity = refl; limit = refl })

module _ (j : Job) (ok : FileOk j.file) where
  w : Whole j (run j)
  w = end_whole j ok

  -- the log has a line for each code other than 0, so no more than there are operations
  log-count : length (result j).log ≡ answered (run j) (length j.ops)
  unfolding result result_of
  log-count =
      sym (tally_length (length j.ops) (log_of (run j)) (each_imp (λ h l. omega (arith, w.rows)) (log-rows (run j))))
      ∙ tally_answered (run j) (λ i n. (w.past.right i n).1) (length j.ops)

  pub log-le : length (result j).log ≤ length j.ops
  log-le = omega (arith, log-count, answered-le (run j) (length j.ops))

  -- a code has a byte
  pub code-small : (i : ℕ) → (row_of (run j) i).code < 256
  code-small i = by_cases (ℕ_discrete (row_of (run j) i).code not_yet) (λ z. omega arith) (λ n. says-code (w.past.right i n).0)
