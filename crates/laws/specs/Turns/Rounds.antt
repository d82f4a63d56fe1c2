-- Everyone gets done: in each round that begins with some operation unfinished somebody uses a turn, and all together cannot use more turns than
-- each of them can; so that many rounds finish them all. A search uses a turn in every round until it is finished.
use Prim.Native.Nat.{ℕ, zero, suc, ◌+◌, ◌*◌, ◌<◌, ◌≤◌}
use Rattle.std.specs.Prelude.{◌≡◌, List, [], ◌∷◌, ◌++◌, Bool, false, length, get_or, set}
use Rattle.std.proofs.Math.Path.{refl, ap}
use Rattle.std.proofs.Common.{◌∙◌, arith}
use Rattle.std.proofs.Math.Logic.{by_cases}
use Rattle.std.proofs.Math.Bool.{not-eq-not}
use Rattle.std.proofs.Math.Nat.{le_refl}
use Rattle.std.proofs.Math.Decide.{ℕ_discrete}
use Rattle.spec.specs.declared.Op.{Op}
use Rattle.spec.specs.declared.Kind.TheVariants.{Search}
use Rattle.spec.specs.declared.Stage.{Stage}
use Rattle.spec.specs.declared.Stage.TheVariants.{NotBegun, ReadPage, Reread, Lock, Held, Split, Done}
use Rattle.spec.specs.Basics.{Has, here, there}
use Rattle.spec.specs.Job.{Job, no_op}
use Rattle.spec.specs.State.{Row, State, Move, gone}
use Rattle.spec.specs.Turn.{turn}
use Rattle.spec.specs.Run.{row_after, row_of, stage_of, idle, tick, act, step, steps, run}
use Rattle.spec.specs.Proper.{FileOk}
use Rattle.spec.specs.MostTurns.{longest, most_turns, sharp_turns, under, kind_at}
use Rattle.spec.specs.Claims.{Unfinished}
use Rattle.spec.specs.Rounds.{Round, Rounds, no_round, one_more, below, in_turn, most_rounds, all_turns, sharp_rounds, AllDone}
use Rattle.laws.specs.Tools.{if-false, has_left, has_right}
use Rattle.laws.specs.Turns.Rows.{row_of_other, row_of_same, stage_of_other, row-after, stage-row, moves_row, step_case, steps_keep}
use Rattle.laws.specs.Turns.Progress.{progress}
use Rattle.laws.specs.Turns.States.{steps-append}
use Rattle.laws.specs.Turns.Whole.{Whole, end_whole}
use Rattle.laws.specs.Turns.Theorem.{search_moves, moves_unfinished}
use Rattle.laws.specs.Turns.SpentTurns.{sharp-turns, most-turns, sharp-longest}

-- the turns that all operations together have used
unfoldable total : List Row → ℕ
total [] = 0
total (r ∷ rs) = r.used + total rs

total-set
    : (rs : List Row) (i : ℕ) (r : Row)
    → i < length rs
    → r.used ≡ (get_or rs i gone).used + 1
    → total (set rs i r) ≡ suc (total rs)
unfolding total
total-set [] i r l e = absurd (omega arith)
total-set (a ∷ rs) zero r l e = omega arith
total-set (a ∷ rs) (suc i) r l e = let h = total-set rs i r (omega arith) e in omega arith

total_within
    : (g : ℕ) (rs : List Row) (ops : List Op)
    → length rs ≡ length ops
    → ((i : ℕ) → (get_or rs i gone).used ≤ sharp_turns g (get_or ops i no_op).kind)
    → total rs ≤ all_turns g ops
unfolding total all_turns
total_within g [] [] e h = omega arith
total_within g [] (op ∷ ops) e h = omega arith
total_within g (r ∷ rs) [] e h = absurd (omega arith)
total_within g (r ∷ rs) (op ∷ ops) e h = omega (arith, h 0, total_within g rs ops (omega arith) (λ i. h (suc i)))

-- which is within what is asked
all_longest : (g : ℕ) (ops : List Op) → all_turns g ops ≤ length ops * longest g
unfolding all_turns
all_longest g [] = omega arith
all_longest g (op ∷ ops) = omega (arith, sharp-longest g op.kind, all_longest g ops)

-- a stage that is not other than finished is finished
pub done-or : (st : Stage) → ((st ≡ Done → ⊥) → ⊥) → st ≡ Done
unfolding idle
done-or NotBegun h = absurd (h (moves_unfinished [] NotBegun refl))
done-or (ReadPage x) h = absurd (h (moves_unfinished [] (ReadPage x) refl))
done-or (Reread x t) h = absurd (h (moves_unfinished [] (Reread x t) refl))
done-or (Lock x) h = absurd (h (moves_unfinished [] (Lock x) refl))
done-or (Held x t) h = absurd (h (moves_unfinished [] (Held x t) refl))
done-or (Split x b n q) h = absurd (h (moves_unfinished [] (Split x b n q) refl))
done-or Done h = refl

module _ (ops : List Op) where
  -- what the next turn of operation i does, where it does not wait
  abbrev move_of : State → ℕ → Move
  move_of s i = turn s (get_or ops i no_op) (stage_of s i)

  -- a turn that is used
  pub step_moves : (s : State) (i : ℕ) → idle s.locks (stage_of s i) ≡ false → step ops s i ≡ act s i (move_of s i)
  unfolding step
  step_moves s i e = if-false _ _ e

  act_total : (s : State) (i : ℕ) → i < length s.rows → total (act s i (move_of s i)).rows ≡ suc (total s.rows)
  unfolding row_of
  act_total s i l = total-set s.rows i (row_after (move_of s i) (row_of s i)) l refl

  steps_total : (s : State) (ts : List ℕ) → total s.rows ≤ total (steps ops s ts).rows
  steps_total s ts = steps_keep (λ t. total s.rows ≤ total t.rows) ops more s ts (le_refl (total s.rows))
    where
      more : (t : State) (i : ℕ) → total s.rows ≤ total t.rows → total s.rows ≤ total (step ops t i).rows
      more t i h = step_case (λ v. total s.rows ≤ total v.rows) ops t i h (λ l e. omega (arith, act_total t i l))

  -- under a list that names an operation that can use a turn somebody uses one: that operation, or another before it
  somebody
      : (s : State) (ts : List ℕ) (k : ℕ)
      → Has k ts
      → idle s.locks (stage_of s k) ≡ false
      → total s.rows < total (steps ops s ts).rows
  unfolding steps stage_of row_of
  somebody s [] k h e = elim h [ ]
  somebody s (t ∷ ts) k here e =
      omega (arith, ap (λ (v : State). total v.rows) (step_moves s k e), act_total s k (moves_row s k e), steps_total (step ops s k) ts)
  somebody s (t ∷ ts) k (there h) e =
      step_case (λ v. total s.rows < total (steps ops v ts).rows) ops s t (somebody (tick s) ts k h e)
      (λ l z. omega (arith, act_total s t l, steps_total (act s t (move_of s t)) ts))

  -- what is finished stays finished
  steps-done : (i : ℕ) (s : State) (ts : List ℕ) → stage_of s i ≡ Done → stage_of (steps ops s ts) i ≡ Done
  unfolding stage_of row_of
  steps-done i s ts = steps_keep (λ t. stage_of t i ≡ Done) ops stays s ts
    where
      stays : (t : State) (k : ℕ) → stage_of t i ≡ Done → stage_of (step ops t k) i ≡ Done
      stays t k h =
          step_case (λ v. stage_of v i ≡ Done) ops t k h
          (λ l e.
          by_cases (ℕ_discrete i k) (λ (q : i ≡ k). absurd (moves_unfinished t.locks (stage_of t k) e (rw q at h)))
          (λ q. stage_of_other t k i (move_of t k) q ∙ h))

  -- a turn of another leaves the row of operation i; so the turns that it has used never get fewer
  other_row : (i k : ℕ) (s : State) → (i ≡ k → ⊥) → row_of (step ops s k) i ≡ row_of s i
  unfolding row_of
  other_row i k s n = step_case (λ t. row_of t i ≡ row_of s i) ops s k refl (λ l e. row_of_other s k i (move_of s k) n)

  steps-used : (s : State) (ts : List ℕ) (i : ℕ) → (row_of s i).used ≤ (row_of (steps ops s ts) i).used
  unfolding row_of
  steps-used s ts = steps_keep (λ t. (i : ℕ) → (row_of s i).used ≤ (row_of t i).used) ops more s ts (λ i. le_refl (row_of s i).used)
    where
      more : (t : State) (k : ℕ) → ((i : ℕ) → (row_of s i).used ≤ (row_of t i).used) → (i : ℕ) → (row_of s i).used ≤ (row_of (step ops t k) i).used
      more t k h =
          step_case (λ v. (i : ℕ) → (row_of s i).used ≤ (row_of v i).used) ops t k h
          (λ l e. row-after t k (move_of t k) l (λ i r. (row_of s i).used ≤ r.used) (omega (arith, h k)) (λ i n. h i))

  -- a turn of its own that does not wait is used, whatever follows
  own_used : (i : ℕ) (s : State) (ts : List ℕ) → idle s.locks (stage_of s i) ≡ false → (row_of s i).used < (row_of (steps ops (step ops s i) ts) i).used
  own_used i s ts e =
      let own : (row_of (act s i (move_of s i)) i).used ≡ (row_of s i).used + 1
      = ap (λ (r : Row). r.used) (row_of_same s i (move_of s i) (moves_row s i e)) in
      omega (arith, ap (λ (t : State). (row_of t i).used) (step_moves s i e), steps-used (step ops s i) ts i)

  -- under a list that names it, an operation that no lock makes wait uses a turn
  never_waits
      : (i : ℕ) (s : State) (ts : List ℕ)
      → Has i ts
      → ((l : List Bool) → idle l (stage_of s i) ≡ false)
      → (row_of s i).used < (row_of (steps ops s ts) i).used
  unfolding steps stage_of
  never_waits i s [] h f = elim h [ ]
  never_waits i s (t ∷ ts) here f = own_used i s ts (f s.locks)
  never_waits i s (t ∷ ts) (there h) f =
      by_cases (ℕ_discrete i t)
      (λ (q : i ≡ t). rw (← q) (own_used i s ts (f s.locks)))
      (λ n. rw (other_row i t s n) at (never_waits i (step ops s t) ts h (rw (other_row i t s n, stage_of) f)))

below_has : (m i : ℕ) → i < m → Has i (below m)
unfolding below
below_has zero i l = absurd (omega arith)
below_has (suc m) i l =
    by_cases (ℕ_discrete i m) (λ (e : i ≡ m). has_right (below m) (rw e here)) (λ e. has_left (m ∷ []) (below_has m i (omega arith)))

-- Rounds of a job.
module _ (j : Job) where
  under-append : (ts us : List ℕ) → under j (ts ++ us) ≡ steps j.ops (under j ts) us
  unfolding under run
  under-append ts us = steps-append j.ops _ ts us

  pub under-stay : (ts us : List ℕ) (i : ℕ) → stage_of (under j ts) i ≡ Done → stage_of (under j (ts ++ us)) i ≡ Done
  under-stay ts us i d = rw (under-append ts us) (steps-done j.ops i (under j ts) us d)

  -- every operation in turn is a round from every state on
  every_round : (s : State) → Round j s (below (length j.ops))
  every_round s i l u = below_has (length j.ops) i l

  pub in_turn_lem : (k : ℕ) → Rounds j k (in_turn (length j.ops) k)
  unfolding in_turn
  in_turn_lem zero = no_round
  in_turn_lem (suc k) = one_more (in_turn_lem k) (every_round _)

  -- where all are finished any list is a round
  pub round-more : (k : ℕ) (ts us : List ℕ) → AllDone j (under j ts) → Rounds j k ts → Rounds j (suc k) (ts ++ us)
  round-more k ts us done r = one_more r (λ i l u. absurd (u (done i l)))

  -- what gets more in every round that begins with operation i unfinished
  abbrev GetsMore : ℕ → (State → ℕ) → Type 0
  GetsMore i much =
      (ts us : List ℕ) → Round j (under j ts) us → Unfinished (under j ts) i → much (under j ts) < much (under j (ts ++ us))

  -- if it has a bound, the operation is finished after that many rounds
  module _ (i n : ℕ) (much : State → ℕ) (more : GetsMore i much) (most : (ts : List ℕ) → much (under j ts) ≤ n) where
    rounds_much : (k : ℕ) (ts : List ℕ) → Rounds j k ts → Unfinished (under j ts) i → k ≤ much (under j ts)
    rounds_much zero ts no_round u = omega arith
    rounds_much (suc k) all (one_more {ts} {us} r round) u =
        let v : Unfinished (under j ts) i = λ d. u (under-stay ts us i d) in
        omega (arith, rounds_much k ts r v, more ts us round v)

    rounds_end : (k : ℕ) (ts : List ℕ) → n ≤ k → Rounds j k ts → stage_of (under j ts) i ≡ Done
    rounds_end k ts l r =
        let us = below (length j.ops) in
        done-or _ (λ u. omega (arith, rounds_much k ts r u, more ts us (every_round (under j ts)) u, most (ts ++ us)))

module _ (j : Job) (ok : FileOk j.file) where
  under_whole : (ts : List ℕ) → Whole (record { file = j.file; ops = j.ops; turns = ts }) (under j ts)
  unfolding under
  under_whole ts = end_whole _ ok

  -- in a round that begins with an operation unfinished somebody uses a turn, and all together use no more than each can
  one_used : (i : ℕ) → GetsMore j i (λ s. total s.rows)
  one_used i ts us round u =
      let w = under_whole ts in
      let p = progress (under j ts) w.good.locks i u in
      let named = round p.0 (omega (arith, moves_row (under j ts) p.0 p.1, w.rows)) (moves_unfinished _ _ p.1) in
      rw (under-append j ts us) (somebody j.ops (under j ts) us p.0 named p.1)

  all_used : (ts : List ℕ) → total (under j ts).rows ≤ sharp_rounds j
  unfolding row_of
  all_used ts = total_within j.file.g (under j ts).rows j.ops (under_whole ts).rows (sharp-turns j ok ts)

  -- AS MANY ROUNDS AS THE OPERATIONS CAN USE TURNS FINISH THEM ALL
  pub sharp-rounds : (k : ℕ) (ts : List ℕ) → sharp_rounds j ≤ k → Rounds j k ts → AllDone j (under j ts)
  sharp-rounds k ts l r i w = rounds_end j i (sharp_rounds j) (λ s. total s.rows) (one_used i) all_used k ts l r

  -- m × (2^g + 4g + 6) ROUNDS FINISH THEM ALL
  pub most-rounds : (k : ℕ) (ts : List ℕ) → most_rounds j ≤ k → Rounds j k ts → AllDone j (under j ts)
  most-rounds k ts l = sharp-rounds k ts (omega (arith, all_longest j.file.g j.ops))

  -- a search uses a turn in every round
  search_used : (i : ℕ) → kind_at j i ≡ Search → GetsMore j i (λ s. (row_of s i).used)
  search_used i e ts us round u =
      let w = under_whole ts in
      let l = stage-row (under j ts) i u in
      rw (under-append j ts us)
      (never_waits j.ops i (under j ts) us (round i (omega (arith, w.rows)) u)
      (λ locks. not-eq-not.0 (search_moves locks _ _ _ _ (w.codes.code i l) e u)))

  pub search_rounds
      : (k : ℕ) (ts : List ℕ) (i : ℕ)
      → kind_at j i ≡ Search
      → most_turns j.file.g Search ≤ k
      → Rounds j k ts
      → stage_of (under j ts) i ≡ Done
  search_rounds k ts i e l r =
      rounds_end j i (most_turns j.file.g Search) (λ s. (row_of s i).used) (search_used i e) (λ us. rw e at (most-turns j ok us i)) k ts l r
