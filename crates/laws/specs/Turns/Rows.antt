-- Moves and rows. After a turn the operation's own row is as the move says and the others are as they were; a turn goes by or the operation
-- moves; what every turn keeps holds after any turns.
use Rattle.std.specs.Prelude.{ℕ, ◌<◌, ◌≡◌, refl, List, [], ◌∷◌, Bool, false, length, get_or, replicate, None}
use Rattle.std.proofs.Common.{ap, true≢false, get_or-set_same, get_or-set_other}
use Rattle.std.proofs.Math.Logic.{by_cases}
use Rattle.std.proofs.Math.Decide.{ℕ_discrete}
use Rattle.spec.specs.declared.Op.{Op}
use Rattle.spec.specs.declared.Stage.{Stage}
use Rattle.spec.specs.declared.Stage.TheVariants.{Done}
use Rattle.spec.specs.Job.{no_op}
use Rattle.spec.specs.Code.{not_yet}
use Rattle.spec.specs.State.{Row, State, Answer, Move, blank, gone}
use Rattle.spec.specs.Turn.{turn}
use Rattle.spec.specs.Run.{row_after, row_of, stage_of, idle, tick, act, step, steps}
use Rattle.laws.specs.Tools.{if_case, within, replicate_all}

-- a move that writes neither a page nor an entry
abbrev pub still : Stage → Answer → ℕ → ℕ → Bool → ℕ → Move
still st a from n v takes =
    record { stage = st; answer = a; from = from; count = n; value = v; takes = takes; page = None; entry = None }

-- the rows after a turn
pub row_of_other : (s : State) (i j : ℕ) (m : Move) → (j ≡ i → ⊥) → row_of (act s i m) j ≡ row_of s j
unfolding row_of
row_of_other s i j m h = rw get_or-set_other

pub row_of_same : (s : State) (i : ℕ) (m : Move) → i < length s.rows → row_of (act s i m) i ≡ row_after m (row_of s i)
unfolding row_of
row_of_same s i m h = rw get_or-set_same

pub stage_of_other : (s : State) (i j : ℕ) (m : Move) → (j ≡ i → ⊥) → stage_of (act s i m) j ≡ stage_of s j
unfolding stage_of
stage_of_other s i j m h = ap (λ r. r.stage) (row_of_other s i j m h)

pub stage_of_same : (s : State) (i : ℕ) (m : Move) → i < length s.rows → stage_of (act s i m) i ≡ m.stage
unfolding stage_of
stage_of_same s i m h = ap (λ r. r.stage) (row_of_same s i m h)

-- what holds of every row, and of every stage, after a turn of operation i
module _ (s : State) (i : ℕ) (m : Move) (lt : i < length s.rows) where
  pub row-after
      : (P : ℕ → Row → Type 0)
      → P i (row_after m (row_of s i))
      → ((j : ℕ) → (j ≡ i → ⊥) → P j (row_of s j))
      → (j : ℕ)
      → P j (row_of (act s i m) j)
  row-after P own other j =
      by_cases (ℕ_discrete j i) (λ (e : j ≡ i). rw (e, row_of_same s i m lt) own) (λ e. rw (row_of_other s i j m e) (other j e))

  pub stage-after
      : (P : ℕ → Stage → Type 0)
      → P i m.stage
      → ((j : ℕ) → (j ≡ i → ⊥) → P j (stage_of s j))
      → (j : ℕ)
      → P j (stage_of (act s i m) j)
  unfolding stage_of
  stage-after P own other = row-after (λ j r. P j r.stage) own other

-- what is read where there is no row
no_row : (P : Row → Type 0) (s : State) (i : ℕ) → (P gone → ⊥) → P (row_of s i) → i < length s.rows
unfolding row_of
no_row P s i n h = within P s.rows i gone n h

-- an operation that is unfinished, that is not idle or that has a code has a row
pub stage-row : (s : State) (i : ℕ) → (stage_of s i ≡ Done → ⊥) → i < length s.rows
unfolding stage_of
stage-row s i h = no_row (λ r. r.stage ≡ Done → ⊥) s i (λ n. n refl) h

pub moves_row : (s : State) (i : ℕ) → idle s.locks (stage_of s i) ≡ false → i < length s.rows
unfolding stage_of idle
moves_row s i h = no_row (λ r. idle s.locks r.stage ≡ false) s i (λ e. true≢false e) h

pub code_row : (s : State) (i : ℕ) → ((row_of s i).code ≡ not_yet → ⊥) → i < length s.rows
code_row s i h = no_row (λ r. r.code ≡ not_yet → ⊥) s i (λ n. n refl) h

-- one turn: it goes by, or the operation moves
pub step_case
    : (P : State → Type 0) (ops : List Op) (s : State) (i : ℕ)
    → P (tick s)
    → (i < length s.rows → idle s.locks (stage_of s i) ≡ false → P (act s i (turn s (get_or ops i no_op) (stage_of s i))))
    → P (step ops s i)
unfolding step
step_case P ops s i t a = if_case P (λ e. t) (λ e. a (moves_row s i e) e)

pub steps_keep
    : (P : State → Type 0) (ops : List Op)
    → ((s : State) (i : ℕ) → P s → P (step ops s i))
    → (s : State) (ts : List ℕ)
    → P s
    → P (steps ops s ts)
unfolding steps
steps_keep P ops f s [] h = h
steps_keep P ops f s (t ∷ ts) h = steps_keep P ops f (step ops s t) ts (f s t h)

-- no operation has begun
pub first_row_lem : (P : Row → Type 0) → P blank → P gone → (m i : ℕ) → P (get_or (replicate m blank) i gone)
first_row_lem P b g m = replicate_all P m blank gone b g
