-- The turns on the lent table: the row that is taken out, stepped and put back is the machine's, and no other row changes. First of any proper job
-- whose operations stand in some bytes; then of a job that is given as bytes with its turns.
use mathlib.Core.Path.{◌≡◌, sym, ap, ◌∙◌}
use mathlib.Core.Logic.{by_cases}
use mathlib.Core.List.{List}
use Prim.Native.Nat.{ℕ, zero, suc, ◌*◌, ◌/◌, ◌≤◌, ◌<◌}
use native.Mathlib.Decide.{ℕ_discrete}
use native.Mathlib.Omega.{arith}
use lib.ListN.{length, get_or, set, length-set}
use lib.Seq.{get_or-set_same, get_or-set_other}
use Rattle.spec.specs.Job.{Job, no_op, op_size}
use Rattle.spec.specs.Decode.{job_of}
use Rattle.spec.specs.Run.{row_of}
use Rattle.spec.specs.Claims.{state_at}
use Rattle.laws.specs.Tools.{each_at}
use Rattle.laws.specs.Codec.Proper.{JobProper}
use Rattle.header.specs.declared.Header.{Header}
use Rattle.header.specs.Counts.{counts_of}
use Rattle.turn.specs.Rows.{row_image, blank_row}
use Rattle.turn.specs.Steps.{Out}
use Rattle.simulation.specs.Shown.{shape_of, Meets}
use Rattle.simulation.specs.SafeTurns.{safe}
use Rattle.simulation.specs.Sim.{simulates, others_same}
use Rattle.reader.specs.Parts.{ops_in, turns_in, op_at, turn_at}
use Rattle.reader.specs.PartLaws.{length-ops, length-turns, op_in, turn_in}
use Rattle.table.specs.Turns.{Both, moved_on, Moves, turn_on, Takes, run_turns}
use Rattle.run.specs.Table.{shape_for, all_turns, Accepts, Running}
use Rattle.run.proofs.Known.{proper, heads, ops_are, turns_are, shape_is}

-- the operations of the job j stand in the bytes s
pub record OpsStand (j : Job) (s : List ℕ) : Type 0 where
  pub size : length s ≡ op_size * length j.ops
  pub each : (i : ℕ) → i < length j.ops → op_at s i ≡ get_or j.ops i no_op

module _ (j : Job) (ok : JobProper j) (ops : List ℕ) (stand : OpsStand j ops) (k : ℕ) (s : Both) (l : k < length j.turns) (r : Running j k s) where
  -- the operation that turn k names
  abbrev who : ℕ
  who = get_or j.turns k 0

  named : who < length j.ops
  named = each_at j.turns k 0 l ok.turns

  pub moves : Moves (shape_of j.file) ops k who (get_or s.rows who blank_row) s.work
  moves =
      record {
        op = omega (arith, named, stand.size);
        turn = omega (arith, ok.turn_count);
        safe = rw (stand.each who named, r.table who named) (safe j ok k l s.work r.shown);
      }

  stepped : Out
  stepped = moved_on (shape_of j.file) ops k who (get_or s.rows who blank_row) s.work

  meets : Meets (state_at j (suc k)) who stepped
  unfolding stepped moved_on
  meets = rw (stand.each who named, r.table who named) (simulates j ok k l s.work r.shown)

  each : (q : ℕ) → q < length j.ops → get_or (set s.rows who stepped.row) q blank_row ≡ row_image (row_of (state_at j (suc k)) q)
  each q m =
      by_cases (ℕ_discrete q who)
      (λ (e : q ≡ who). rw (e, get_or-set_same s.rows who stepped.row blank_row (omega (arith, named, r.room))) meets.row)
      (λ n. get_or-set_other s.rows who q stepped.row blank_row n ∙ r.table q m ∙ ap row_image (sym (others_same j k l q n)))

  pub moved : Running j (suc k) (turn_on (shape_of j.file) ops k who s)
  unfolding turn_on stepped
  moved = record { shown = meets.shown; table = each; room = rw length-set r.room }

module _ {h : Header} {b : List ℕ} (a : Accepts h b) where
  abbrev ops : List ℕ
  ops = ops_in (counts_of h) b

  abbrev list : List ℕ
  list = turns_in (counts_of h) b

  pub stand : OpsStand (job_of b) ops
  stand = record { size = omega (arith, length-ops (heads a), ops_are a); each = λ i l. op_in (heads a) i (omega (arith, ops_are a)) }

  pub turn-count : length list / 2 ≡ h.turns
  turn-count = omega (arith, length-turns (heads a))

  module _ (k : ℕ) (s : Both) (l : k < h.turns) (r : Running (job_of b) k s) where
    within : k < length (job_of b).turns
    within = rw (turns_are a) l

    pub takes : Takes (shape_for h) ops list k s
    takes =
        record {
          row = rw (turn_in (heads a) k l) (omega (arith, each_at (job_of b).turns k 0 within (proper a).turns, r.room));
          moves = rw (turn_in (heads a) k l, ← shape_is a) (moves (job_of b) (proper a) ops stand k s within r);
        }

    pub turned : Running (job_of b) (suc k) (turn_on (shape_for h) ops k (turn_at list k) s)
    turned = rw (turn_in (heads a) k l, ← shape_is a) (moved (job_of b) (proper a) ops stand k s within r)

  -- after k turns
  pub running : (k : ℕ) (s : Both) → k ≤ h.turns → Running (job_of b) 0 s → Running (job_of b) k (all_turns h b k s)
  unfolding all_turns run_turns
  running zero s l r = r
  running (suc k) s l r = turned k (run_turns (shape_for h) ops list k s) (omega arith) (unfold all_turns in running k s (omega arith) r)

  pub each_takes : (s : Both) → Running (job_of b) 0 s → (k : ℕ) → k < length list / 2 → Takes (shape_for h) ops list k (all_turns h b k s)
  each_takes s r k l = let m : k < h.turns = rw turn-count at l in takes k (all_turns h b k s) m (running k s (omega arith) r)
