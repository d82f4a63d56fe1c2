-- The states of a job, turn by turn: the state before turn t, what the file holds then, whose turn it is, an operation's first turn, and what is so
-- of every row.
use Prim.Native.Nat.{ℕ, zero, suc, ◌<◌, ◌≤◌}
use Rattle.std.specs.Prelude.{◌≡◌, refl, List, [], ◌∷◌, ◌++◌, length, get_or, take, eqb, Option}
use Rattle.std.proofs.Common.{sym, ap, ◌∙◌, arith, add-one, length-set, take-suc, eqb-true}
use Rattle.std.proofs.Math.Seq.{take-length}
use Rattle.std.proofs.lemmas.Bool.{eqb-false}
use Rattle.spec.specs.declared.Rec.{Rec}
use Rattle.spec.specs.declared.Op.{Op}
use Rattle.spec.specs.Basics.{if}
use Rattle.spec.specs.File.{File}
use Rattle.spec.specs.Job.{Job, no_op}
use Rattle.spec.specs.State.{Row, State, Move, blank, gone}
use Rattle.spec.specs.Turn.{turn}
use Rattle.spec.specs.Run.{row_after, row_of, stage_of, act, step, start, steps, run}
use Rattle.spec.specs.Claims.{state_at}
use Rattle.laws.specs.Tools.{if_case}
use Rattle.laws.specs.Turns.Rows.{row-after, step_case, first_row_lem}
use Rattle.laws.specs.Turns.Lookup.{lookup}

-- what the file holds before turn t; whose turn it is
abbrev pub hist : Job → ℕ → ℕ → Option Rec
hist j t k = lookup (state_at j t).file k

abbrev pub who : Job → ℕ → ℕ
who j t = get_or j.turns t 0

-- the first turn that names operation i
unfoldable pub first_turn : List ℕ → ℕ → ℕ
first_turn [] i = 0
first_turn (t ∷ ts) i = if (eqb t i) 0 (suc (first_turn ts i))

pub first_le : (ts : List ℕ) (i t : ℕ) → t < length ts → get_or ts t 0 ≡ i → first_turn ts i ≤ t
unfolding first_turn
first_le [] i t l e = absurd (omega arith)
first_le (a ∷ ts) i zero l e = if_case (λ n. n ≤ zero) (λ q. omega arith) (λ q. absurd (eqb-false _ _ q e))
first_le (a ∷ ts) i (suc t) l e = if_case (λ n. n ≤ suc t) (λ q. omega arith) (λ q. let h = first_le ts i t (omega arith) e in omega arith)

-- no turn before u names operation i
pub first_ge : (ts : List ℕ) (i u : ℕ) → u ≤ length ts → ((v : ℕ) → v < u → get_or ts v 0 ≡ i → ⊥) → u ≤ first_turn ts i
unfolding first_turn
first_ge ts i zero l h = omega arith
first_ge [] i (suc u) l h = absurd (omega arith)
first_ge (a ∷ ts) i (suc u) l h =
    if_case (λ n. suc u ≤ n) (λ q. absurd (h 0 (omega arith) (eqb-true a i q)))
    (λ q. let k = first_ge ts i u (omega arith) (λ v w e. h (suc v) (omega arith) e) in omega arith)

-- turns, and then more turns
pub steps-append : (ops : List Op) (s : State) (ts us : List ℕ) → steps ops s (ts ++ us) ≡ steps ops (steps ops s ts) us
unfolding steps
steps-append ops s [] us = refl
steps-append ops s (t ∷ ts) us = steps-append ops (step ops s t) ts us

pub state_at-suc : (j : Job) (t : ℕ) → t < length j.turns → state_at j (suc t) ≡ step j.ops (state_at j t) (who j t)
unfolding state_at steps
state_at-suc j t l = rw (take-suc j.turns t 0 l) (steps-append j.ops _ (take t j.turns) (who j t ∷ []))

pub state_at_end : (j : Job) → state_at j (length j.turns) ≡ run j
unfolding state_at run
state_at_end j = ap (steps j.ops (start j.file (length j.ops))) (take-length j.turns)

step_now : (ops : List Op) (s : State) (i : ℕ) → (step ops s i).now ≡ suc s.now
step_now ops s i = step_case (λ t. t.now ≡ suc s.now) ops s i (add-one _) (λ lt e. add-one _)

pub step-rows : (ops : List Op) (s : State) (i : ℕ) → length (step ops s i).rows ≡ length s.rows
step-rows ops s i =
    step_case (λ t. length t.rows ≡ length s.rows) ops s i refl
    (λ lt e. length-set s.rows i (row_after (turn s (get_or ops i no_op) (stage_of s i)) (row_of s i)))

pub state_at-zero : (j : Job) → state_at j zero ≡ start j.file (length j.ops)
unfolding state_at steps
state_at-zero j = refl

pub start-file : (f : File) (m : ℕ) → (start f m).file ≡ f
unfolding start
start-file f m = refl

start_now : (f : File) (m : ℕ) → (start f m).now ≡ 0
unfolding start
start_now f m = refl

pub state_at_now : (j : Job) (t : ℕ) → t ≤ length j.turns → (state_at j t).now ≡ t
state_at_now j zero l = ap (λ (s : State). s.now) (state_at-zero j) ∙ start_now _ _
state_at_now j (suc t) l =
    ap (λ (s : State). s.now) (state_at-suc j t l) ∙ step_now j.ops _ (who j t) ∙ ap suc (state_at_now j t (omega arith))

pub run_now : (j : Job) → (run j).now ≡ length j.turns
run_now j = ap (λ (s : State). s.now) (sym (state_at_end j)) ∙ state_at_now j (length j.turns) (omega arith)

-- the move of operation i, were turn t its own
abbrev pub move_at : Job → ℕ → ℕ → Move
move_at j i t = turn (state_at j t) (get_or j.ops i no_op) (stage_of (state_at j t) i)

-- What is so of every row at every time t: of one not begun, of one that the turn leaves as it is, and after a turn of the operation's own.
module _ (j : Job) (P : ℕ → ℕ → Row → Type 0)
    (first : (i : ℕ) → P zero i blank × P zero i gone)
    (later : (t i : ℕ) → P t i (row_of (state_at j t) i) → P (suc t) i (row_of (state_at j t) i))
    (own : (t : ℕ)
    → t < length j.turns
    → who j t < length (state_at j t).rows
    → state_at j (suc t) ≡ act (state_at j t) (who j t) (move_at j (who j t) t)
    → P t (who j t) (row_of (state_at j t) (who j t))
    → P (suc t) (who j t) (row_after (move_at j (who j t) t) (row_of (state_at j t) (who j t))))
  where
    step_row
        : (t : ℕ)
        → t < length j.turns
        → ((i : ℕ) → P t i (row_of (state_at j t) i))
        → (i : ℕ)
        → P (suc t) i (row_of (state_at j (suc t)) i)
    unfolding row_of
    step_row t l ih =
        rw (state_at-suc j t l)
        (step_case (λ (z : State). state_at j (suc t) ≡ z → (i : ℕ) → P (suc t) i (row_of z i)) j.ops (state_at j t) (who j t)
        (λ e i. later t i (ih i))
        (λ lt q e.
        row-after (state_at j t) (who j t) (move_at j (who j t) t) lt (P (suc t)) (own t l lt e (ih (who j t))) (λ i n. later t i (ih i)))
        (state_at-suc j t l))

    pub row_at : (t : ℕ) → t ≤ length j.turns → (i : ℕ) → P t i (row_of (state_at j t) i)
    unfolding start row_of
    row_at zero l i = rw (state_at-zero j) (first_row_lem (P zero i) (first i).0 (first i).1 (length j.ops) i)
    row_at (suc t) l i = step_row t l (row_at t (omega arith)) i
