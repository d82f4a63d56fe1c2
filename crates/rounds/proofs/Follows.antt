-- Rounds on the lent table are the machine's: where the table, the buffer and the memory show a list whose turns are all used, each operation of a
-- round is passed over or gets its turn as the definition says, and what that asks is there. So n rounds here deal what n rounds deal there.
use mathlib.Core.Path.{◌≡◌, refl, sym, ap, subst, ◌∙◌}
use mathlib.Core.List.{List, [], ◌∷◌, ◌++◌, append_assoc, append-nil}
use mathlib.Core.Bool.{Bool, true, false}
use Prim.Native.Nat.{ℕ, zero, suc, ◌+◌, ◌*◌, ◌≤◌, ◌<◌}
use native.Mathlib.Omega.{arith}
use lib.ListN.{length, length-append}
use lib.Seq.{take-append_seam, take-length, get_or-append_seam}
use Rattle.spec.specs.Basics.{each}
use Rattle.spec.specs.Bytes.{two}
use Rattle.spec.specs.Job.{Job, turns_offset, turn_size}
use Rattle.spec.specs.Decode.{job_of}
use Rattle.spec.specs.State.{State}
use Rattle.spec.specs.Run.{stage_of, idle, start, steps}
use Rattle.spec.specs.Claims.{state_at}
use Rattle.spec.specs.Deal.{max_dealt, round_from, round, rounds}
use Rattle.laws.specs.Tools.{if-true, if-false}
use Rattle.laws.specs.Codec.Tools.{every}
use Rattle.laws.specs.Codec.Parts.{length_each, each_snoc}
use Rattle.laws.specs.Codec.Sections.{length_two}
use Rattle.laws.specs.Codec.Proper.{JobProper}
use Rattle.laws.specs.Turns.States.{steps-append, state_at-zero}
use Rattle.laws.specs.Turns.Dealing.{Uses, stop, used, uses_append, uses_fit, turn_for, round-next, rounds-next}
use Rattle.laws.specs.Dealt.{uses_proper}
use Rattle.header.specs.declared.Header.{Header}
use Rattle.header.specs.Counts.{counts_of}
use Rattle.wire.specs.Over.{over}
use Rattle.wire.specs.OverLaws.{over_none, over-over, length_over}
use Rattle.turn.specs.Safe.{Lockable}
use Rattle.simulation.specs.Steady.{Steady, steady}
use Rattle.simulation.specs.Idle.{idles_is, lockable}
use Rattle.reader.specs.Parts.{ops_in}
use Rattle.table.specs.Turns.{both, Moves}
use Rattle.run.specs.Table.{shape_for, Accepts, Running}
use Rattle.run.proofs.Known.{proper, heads, ops_are, shape_is}
use Rattle.run.proofs.Turned.{OpsStand, stand, moves, moved}
use Rattle.rounds.specs.OnTable.{Dealing, row_for, is_passed, next_place, give_to, Gives, give_up_to, rounds_on, GivesAll}

-- the job of the bytes b with the turn list ts
abbrev with : List ℕ → List ℕ → Job
with b ts = record { file = (job_of b).file; ops = (job_of b).ops; turns = ts }

-- the machine where it starts, and after the turns ts
abbrev started : List ℕ → State
started b = start (job_of b).file (length (job_of b).ops)

abbrev after : List ℕ → List ℕ → State
after b ts = steps (job_of b).ops (started b) ts

-- what is dealt follows the list ts: its turns are all used, so many are counted, they stand behind the job in the buffer, which was s, and the
-- table and the memory show the job after them
pub record Follows (h : Header) (b s ts : List ℕ) (u : Dealing) : Type 0 where
  pub uses : Uses (job_of b).ops (started b) ts
  pub turns : u.turns ≡ length ts
  pub out : u.out ≡ over s (turns_offset (counts_of h)) (each two ts)
  pub running : Running (with b ts) (length ts) (both u.rows u.work)

module _ {h : Header} {b : List ℕ} (a : Accepts h b) (s : List ℕ) (room : turns_offset (counts_of h) + turn_size * max_dealt ≤ length s) where
  -- the state that the table and the memory show
  now_is : (ts : List ℕ) → state_at (with b ts) (length ts) ≡ after b ts
  unfolding state_at
  now_is ts = rw (take-length ts)

  before_is : (ts us : List ℕ) → state_at (with b (ts ++ us)) (length ts) ≡ after b ts
  unfolding state_at
  before_is ts us = rw (take-append_seam ts us)

  proper_with : (ts : List ℕ) → Uses (job_of b).ops (started b) ts → JobProper (with b ts)
  proper_with ts u = uses_proper (job_of b) (proper a) ts u

  few : (ts : List ℕ) → Uses (job_of b).ops (started b) ts → length ts ≤ max_dealt
  few ts u = uses_fit (job_of b) (proper a).file (proper a).op_count ts u

  module _ (ts : List ℕ) (u : Dealing) (f : Follows h b s ts u) (i : ℕ) (l : i < length (job_of b).ops) where
    is_steady : Steady (job_of b).ops (state_at (with b ts) (length ts))
    is_steady = steady (with b ts) (proper_with ts f.uses) (length ts) (omega arith)

    passed_is : is_passed u i ≡ idle (after b ts).locks (stage_of (after b ts) i)
    passed_is =
        rw (f.running.table i l, ← now_is ts)
        (idles_is (job_of b).ops (state_at (with b ts) (length ts)) i u.work is_steady f.running.shown)

    locks : Lockable (row_for u i) u.work
    locks = rw (f.running.table i l) (lockable (job_of b).ops (state_at (with b ts) (length ts)) i u.work is_steady f.running.shown)

    -- where it is not passed over: the list with its turn
    module _ (e : idle (after b ts).locks (stage_of (after b ts) i) ≡ false) where
      abbrev more : List ℕ
      more = ts ++ (i ∷ [])

      uses_more : Uses (job_of b).ops (started b) more
      uses_more = uses_append (job_of b).ops (started b) ts (i ∷ []) f.uses (used e stop)

      many : length more ≡ length ts + 1
      many = length-append ts (i ∷ [])

      stands : OpsStand (with b more) (ops_in (counts_of h) b)
      stands = record { size = (stand a).size; each = (stand a).each }

      running_more : Running (with b more) (length ts) (both u.rows u.work)
      running_more =
          record {
            shown = rw (before_is ts (i ∷ []), ← now_is ts) f.running.shown;
            table = λ q k. rw (before_is ts (i ∷ []), ← now_is ts) (f.running.table q k);
            room = f.running.room;
          }

      may : Moves (shape_for h) (ops_in (counts_of h) b) u.turns i (row_for u i) u.work
      may =
          rw (f.turns, ← shape_is a)
          (rw (get_or-append_seam ts i [] 0) at
          (moves (with b more) (proper_with more uses_more) (ops_in (counts_of h) b) stands (length ts) (both u.rows u.work) (omega (arith, many)) running_more))

      fits : next_place h u.turns + turn_size ≤ length u.out
      fits = rw (f.turns, f.out, length_over) (omega (arith, many, few more uses_more))

      given : Follows h b s more (give_to h b i u)
      unfolding give_to
      given =
          rw (if-false u _ (passed_is ∙ e))
          (record {
            uses = uses_more;
            turns = omega (arith, many, f.turns);
            out =
                rw (f.turns, f.out)
                (over-over (each two ts) (two i) s (turns_offset (counts_of h)) (next_place h (length ts)) (omega (arith, length_each two 2 ts (every length_two ts)))
                ∙ ap (over s (turns_offset (counts_of h))) (sym (each_snoc two ts i)));
            running =
                let z : length more ≡ suc (length ts) = omega (arith, many) in
                rw (z, f.turns, ← shape_is a)
                (rw (get_or-append_seam ts i [] 0) at
                (moved (with b more) (proper_with more uses_more) (ops_in (counts_of h) b) stands (length ts) (both u.rows u.work) (omega (arith, many)) running_more));
          })

    -- operation i of a round: what that asks, and what comes of it
    gives : Gives h b i u
    gives =
        record {
          heads = heads a;
          op = omega (arith, ops_are a);
          row = omega (arith, f.running.room);
          lock = locks;
          moves = λ e. may (sym passed_is ∙ e);
          room = λ e. fits (sym passed_is ∙ e);
        }

    follows_one : Follows h b s (ts ++ turn_for i (after b ts)) (give_to h b i u)
    unfolding give_to
    follows_one = by (idle (after b ts).locks (stage_of (after b ts) i)) refl
      where
        by
            : (c : Bool)
            → idle (after b ts).locks (stage_of (after b ts) i) ≡ c
            → Follows h b s (ts ++ turn_for i (after b ts)) (give_to h b i u)
        by true e = rw (if-true [] (i ∷ []) e, append-nil ts, if-true u _ (passed_is ∙ e)) f
        by false e = rw (if-false [] (i ∷ []) e) (given e)

  -- the first k operations of a round, each in its turn
  follows_some
      : (ts : List ℕ) (u : Dealing)
      → Follows h b s ts u
      → (k : ℕ)
      → k ≤ length (job_of b).ops
      → Follows h b s (ts ++ round_from (job_of b).ops k 0 (after b ts)) (give_up_to h b k u)
  unfolding give_up_to round_from
  follows_some ts u f zero l = rw (append-nil ts) f
  follows_some ts u f (suc k) l =
      let r = round_from (job_of b).ops k 0 (after b ts) in
      let one = follows_one (ts ++ r) (give_up_to h b k u) (follows_some ts u f k (omega arith)) k (omega arith) in
      rw (round-next (job_of b).ops k (after b ts), ← append_assoc ts r _, ← steps-append (job_of b).ops (started b) ts r) one

  pub gives_all : (ts : List ℕ) (u : Dealing) → Follows h b s ts u → GivesAll h b u
  gives_all ts u f k l =
      let m : k < length (job_of b).ops = omega (arith, ops_are a) in
      gives _ (give_up_to h b k u) (follows_some ts u f k (omega arith)) k m

  -- n rounds
  pub follows_rounds
      : (u : Dealing)
      → Follows h b s [] u
      → (n : ℕ)
      → Follows h b s (rounds n (job_of b).ops (started b)) (rounds_on h b n u)
  unfolding rounds rounds_on round
  follows_rounds u f zero = f
  follows_rounds u f (suc n) =
      let ts = rounds n (job_of b).ops (started b) in
      let all = follows_some ts (rounds_on h b n u) (follows_rounds u f n) (length (job_of b).ops) (omega arith) in
      rw (rounds-next (job_of b).ops n (started b))
      (subst (λ (k : ℕ). Follows h b s (ts ++ round (job_of b).ops (after b ts)) (give_up_to h b k (rounds_on h b n u))) (ops_are a) all)

  -- the rounds begin with no turn dealt, when the table and the memory show the job as it came in
  pub follows_none : (u : Dealing) → u.turns ≡ 0 → u.out ≡ s → Running (job_of b) 0 (both u.rows u.work) → Follows h b s [] u
  unfolding each
  follows_none u t o r =
      record {
        uses = stop;
        turns = t;
        out = o ∙ sym (over_none s _);
        running =
            record {
              shown = rw (state_at-zero (with b []), ← state_at-zero (job_of b)) r.shown;
              table = λ q k. rw (state_at-zero (with b []), ← state_at-zero (job_of b)) (r.table q k);
              room = r.room;
            };
      }
