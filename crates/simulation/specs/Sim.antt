-- THE LAW of this crate: a turn in memory is a turn of the machine. A memory that shows the state before a turn of an accepted job shows,
-- after the turn in memory, the state after it, and the operation's row is the machine's; no other row changes.
use Rattle.std.specs.Prelude.{◌≡◌, List, Bool, ℕ, suc, ◌<◌, length, get_or}
use Rattle.std.proofs.Math.Path.{refl, ap}
use Rattle.std.proofs.Common.{sym, subst₂, ◌∙◌, true≢false, arith}
use Rattle.std.proofs.Math.Bool.{true, false}
use Rattle.std.proofs.lemmas.Bool.{false≢true}
use Rattle.spec.specs.declared.Op.{Op}
use Rattle.spec.specs.declared.Task.TheVariants.{WriteOld}
use Rattle.spec.specs.declared.Stage.{Stage}
use Rattle.spec.specs.declared.Stage.TheVariants.{NotBegun, ReadPage, Reread, Lock, Held, Split, Done}
use Rattle.spec.specs.Basics.{if}
use Rattle.spec.specs.Job.{Job, no_op}
use Rattle.spec.specs.Split.{digit}
use Rattle.spec.specs.State.{State}
use Rattle.spec.specs.Turn.{turn}
use Rattle.spec.specs.Run.{row_of, stage_of, idle, tick, act, step}
use Rattle.spec.specs.Claims.{state_at}
use Rattle.laws.specs.Tools.{if-true, if-false}
use Rattle.laws.specs.Codec.Proper.{JobProper}
use Rattle.laws.specs.Turns.Rows.{row_of_other, row_of_same, moves_row, step_case}
use Rattle.laws.specs.Turns.Good.{Fine}
use Rattle.laws.specs.Turns.Work.{Work}
use Rattle.laws.specs.Turns.States.{who, state_at-suc, state_at_now}
use Rattle.laws.specs.Turns.Slots.{slot_after, step_slots, slots_same}
use Rattle.memory.specs.Memory.{lock_in, turn_in}
use Rattle.turn.specs.declared.Row.{Row}
use Rattle.turn.specs.Rows.{row_image}
use Rattle.turn.specs.Steps.{Out, out, mem_lock, mem_turn, mem_step}
use Rattle.simulation.specs.Shown.{shape_of, Shown, Meets}
use Rattle.simulation.specs.RowBack.{stage_back}
use Rattle.simulation.specs.Picture.{entry_256}
use Rattle.simulation.specs.Steady.{Steady, shape_at, steady}
use Rattle.simulation.specs.Moves.{Turned}
use Rattle.simulation.specs.Searching.{on_begin, on_read, on_reread}
use Rattle.simulation.specs.Holding.{on_lock, on_held}
use Rattle.simulation.specs.Splitting.{on_old, on_split}

module _ (ops : List Op) (s : State) (i : ℕ) (w : List ℕ) (st : Steady ops s) (h : Shown s w) where
  abbrev op : Op
  op = get_or ops i no_op

  abbrev r : Row
  r = row_image (row_of s i)

  abbrev turned : Stage → Out
  turned to = mem_turn (shape_of s.file) op s.now r w to

  -- a turn that the operation can use
  moves
      : (to : Stage)
      → stage_of s i ≡ to
      → idle s.locks to ≡ false
      → Turned s i (slot_after s to (turn_in w)) (turn s op to) (turned to)
  unfolding slot_after idle
  moves NotBegun e b = on_begin ops s i w st h
  moves (ReadPage x) e b = on_read ops s i w st h x e (rw e at (st.good.fine i))
  moves (Reread x t) e b = on_reread ops s i w st h x t
  moves (Lock x) e b = on_lock ops s i w st h x (rw e at (st.good.fine i)) b
  moves (Held x t) e b =
      let n : Fine s.file op (Held x t) = rw e at (st.good.fine i) in
      let k : Work s.file op (Held x t) = rw e at (st.coherent.work i) in
      on_held ops s i w st h x t (λ (z : t ≡ WriteOld). rw z (on_old ops s i w st h x (e ∙ ap (Held x) z))) n.0 k
  moves (Split x b n q) e c = on_split ops s i w st h x b n q e
  moves Done e b = absurd (true≢false b)

  -- a turn that it cannot use
  waits : (to : Stage) → stage_of s i ≡ to → idle s.locks to ≡ true → turned to ≡ out r w
  unfolding idle mem_turn mem_lock digit if
  waits NotBegun e b = absurd (false≢true b)
  waits (ReadPage x) e b = absurd (false≢true b)
  waits (Reread x t) e b = absurd (false≢true b)
  waits (Lock x) e b =
      let n : Fine s.file op (Lock x) = rw e at (st.good.fine i) in
      let z : lock_in w x ≡ 1 = h.picture.locks x (omega (arith, n, st.good.fit.within)) ∙ ap digit b in
      rw z
  waits (Held x t) e b = absurd (false≢true b)
  waits (Split x c n q) e b = absurd (false≢true b)
  waits Done e b = refl

  waited : idle s.locks (stage_of s i) ≡ true → Meets (step ops s i) i (turned (stage_of s i))
  unfolding step row_of
  waited e =
      rw (waits (stage_of s i) refl e, if-true (tick s) (act s i (turn s op (stage_of s i))) e)
      (record { shown = record { picture = h.picture; turns = record { turn = h.turns.turn } }; row = refl })

  acted : Steady ops (step ops s i) → idle s.locks (stage_of s i) ≡ false → Meets (step ops s i) i (turned (stage_of s i))
  unfolding step
  acted after e =
      let t = moves (stage_of s i) refl e in
      let z : step ops s i ≡ act s i (turn s op (stage_of s i)) = if-false _ _ e in
      record {
        shown =
            record {
              picture = rw z t.picture;
              turns =
                  slots_same (slot_after s (stage_of s i) (turn_in w)) (turn_in (turned (stage_of s i)).work) (step ops s i) after.coherent.pages after.rising
                  (λ q d l k. t.turns q d (entry_256 (step ops s i).file after.good.fit q l) (omega (arith, after.good.fit.depth)))
                  (step_slots ops s i (turn_in w) st.good st.coherent st.settled st.rising h.turns);
            };
        row = t.row ∙ ap row_image (rw z (sym (row_of_same s i (turn s op (stage_of s i)) (moves_row s i e))));
      }

  -- so a turn in memory is the machine's step
  step_meets : Steady ops (step ops s i) → Meets (step ops s i) i (mem_step (shape_of s.file) op s.now r w)
  unfolding mem_step stage_of
  step_meets after = rw (stage_back s.now (row_of s i) (st.fields i)) (by (idle s.locks (stage_of s i)) refl)
    where
      by : (b : Bool) → idle s.locks (stage_of s i) ≡ b → Meets (step ops s i) i (turned (stage_of s i))
      by true e = waited e
      by false e = acted after e

-- THE LAW
pub simulates
    : (j : Job)
    → JobProper j
    → (k : ℕ)
    → k < length j.turns
    → (w : List ℕ)
    → Shown (state_at j k) w
    → let i : ℕ = get_or j.turns k 0 in
    Meets (state_at j (suc k)) i (mem_step (shape_of j.file) (get_or j.ops i no_op) k (row_image (row_of (state_at j k) i)) w)
simulates j ok k l w h =
    let s = state_at j k in
    let e = state_at-suc j k l in
    let after : Steady j.ops (step j.ops s (who j k)) = rw (← e) (steady j ok (suc k) l) in
    rw e
    (subst₂ (λ q t. Meets (step j.ops s (who j k)) (who j k) (mem_step q (get_or j.ops (who j k) no_op) t (row_image (row_of s (who j k))) w))
    (shape_at j k) (state_at_now j k (omega arith))
    (step_meets j.ops s (who j k) w (steady j ok k (omega arith)) h after))

-- no other row changes
pub others_same
    : (j : Job) (k : ℕ)
    → k < length j.turns
    → (q : ℕ)
    → (q ≡ get_or j.turns k 0 → ⊥)
    → row_of (state_at j (suc k)) q ≡ row_of (state_at j k) q
unfolding row_of
others_same j k l q n =
    rw (state_at-suc j k l)
    (step_case (λ t. row_of t q ≡ row_of (state_at j k) q) j.ops (state_at j k) (who j k) refl
    (λ lt e. row_of_other (state_at j k) (who j k) q (turn (state_at j k) (get_or j.ops (who j k) no_op) (stage_of (state_at j k) (who j k))) n))
