-- What a call of `run` tells: that the job ran, and its result stands in the buffer; or that it was refused, and why. And of a table that was blank, that it is blank again.
use mathlib.Core.Path.{◌≡◌, refl, sym, ap, subst, ◌∙◌}
use mathlib.Core.List.{List, ◌++◌}
use Rattle.std.specs.Prelude.{Option, None, Some, Ok, Err}
use Prim.Native.Nat.{ℕ, ◌≤◌}
use native.Mathlib.Omega.{arith}
use lib.ListN.{length, take, drop, replicate, length-append}
use lib.Seq.{take_at, take_all}
use Rattle.spec.specs.Bytes.{AreBytes}
use Rattle.spec.specs.Decode.{job_of}
use Rattle.spec.specs.Result.{result}
use Rattle.spec.specs.Check.{Fault, job_fault, first_fault}
use Rattle.spec.specs.Outcome.{Outcome, result_bytes, outcome_by, outcome, after_call, buffer_by, buffer_after, rows_by, rows_after}
use Rattle.spec.specs.Report.{refused_line, printed_by, printed}
use Rattle.laws.specs.Codec.Tools.{or_else_none}
use Rattle.laws.specs.Codec.ResultBack.{ResultFits}
use Rattle.laws.specs.ReadBack.{accepted-result-fits}
use Rattle.wire.specs.Wrote.{Wrote}
use Rattle.wire.specs.OverLaws.{over_parts}
use Rattle.report.specs.Read.{report_of}
use Rattle.report.specs.Sound.{Sound}
use Rattle.report.specs.Right.{report_sound}
use Rattle.report.specs.Printed.{report-printed}
use Rattle.turn.specs.declared.Row.{Row}
use Rattle.turn.specs.Rows.{blank_row}
use Rattle.run.specs.Call.{lent, Settled}
use Rattle.print.specs.Table.{full_table}
use Rattle.print.specs.Printed.{Stands}

-- a text written at the front of a buffer with room for it
stands : {k n : ℕ} {s x t : List ℕ} → k ≤ length s → Wrote k s 0 x t n → Stands x s t n
stands {s = s} {x = x} room w =
    record { count = omega (arith, w.stop); bytes = rw w.stop (w.bytes ∙ over_parts x s 0 (omega (arith, w.stop, w.near))) }

-- the cases of an outcome
ran_by : (o : Option Fault) (s : List ℕ) (n : ℕ) → Ok n ≡ outcome_by o s → (o ≡ None) × (n ≡ length s)
unfolding outcome_by
ran_by None s n e = let z : n ≡ length s = cc in (refl, z)
ran_by (Some f) s n e = absurd (cc)

refused_by : (o : Option Fault) (s : List ℕ) (f : Fault) → Err f ≡ outcome_by o s → o ≡ Some f
unfolding outcome_by
refused_by None s f e = absurd (cc)
refused_by (Some g) s f e = let z : f ≡ g = cc in rw z

-- A TABLE THAT WAS BLANK IS BLANK AGAIN, whether the job ran or was refused
blank-again : (o : Option Fault) → after_call o full_table (replicate (length full_table) blank_row) ≡ full_table
unfolding after_call
blank-again None = refl
blank-again (Some f) = refl

pub settled_here
    : {b s t : List ℕ} {y : List Row} {w u : List ℕ} {r : Outcome}
    → Settled b s t full_table y w u r
    → Settled b s t full_table full_table w u r
unfolding rows_after rows_by
settled_here {b} {s} {t} {y} {w} {u} {r} call =
    subst (λ (z : List Row). Settled b s t full_table z w u r) (call.rows ∙ blank-again (first_fault (lent s full_table w) b)) call

module _ {b s t : List ℕ} {x y : List Row} {w u : List ℕ} {r : Outcome} (call : Settled b s t x y w u r) where
  -- A JOB THAT RAN: n bytes of result
  module _ {n : ℕ} (ran : r ≡ Ok n) where
    cases : (first_fault (lent s x w) b ≡ None) × (n ≡ length (result_bytes b))
    unfolding outcome
    cases = ran_by (first_fault (lent s x w) b) (result_bytes b) n (sym ran ∙ call.answer)

    accepted : job_fault b ≡ None
    unfolding first_fault
    accepted = ((or_else_none _ _).0 cases.0).0

    whole : t ≡ result_bytes b ++ drop (length (result_bytes b)) s
    unfolding buffer_by buffer_after after_call
    whole = rw cases.0 at call.result

    pub ran-fits : n ≤ length t
    ran-fits = omega (arith, cases.1, ap length whole ∙ length-append (result_bytes b) (drop (length (result_bytes b)) s))

    ran-bytes : take n t ≡ result_bytes b
    ran-bytes = ap (take n) whole ∙ take_at (result_bytes b) _ n (sym cases.1)

    ran-whole : take n (take n t) ≡ result_bytes b
    ran-whole = ap (take n) ran-bytes ∙ take_all n (result_bytes b) (omega (arith, cases.1))

    module _ (bytes : AreBytes b) where
      fits : ResultFits (length (job_of b).ops) (result (job_of b))
      fits = accepted-result-fits b bytes accepted

      pub ran_sound : Sound b (take n t)
      unfolding result_bytes
      ran_sound = report_sound b (take n t) (result (job_of b)) n accepted fits ran-whole

      pub ran-printed
          : {k m : ℕ} {o p : List ℕ}
          → Wrote k o 0 (report_of b (take n t)) p m
          → k ≤ length o
          → Stands (printed_by (first_fault (lent s x w) b) b) o p m
      unfolding printed
      ran-printed {m = m} {o = o} {p = p} wrote room =
          subst (λ (text : List ℕ). Stands text o p m)
          (report-printed n b (take n t) accepted fits ran-whole ∙ ap (λ f. printed_by f b) (accepted ∙ sym cases.0))
          (stands room wrote)

  -- A JOB THAT WAS REFUSED
  module _ {f : Fault} (refused : r ≡ Err f) where
    fault : first_fault (lent s x w) b ≡ Some f
    unfolding outcome
    fault = refused_by (first_fault (lent s x w) b) (result_bytes b) f (sym refused ∙ call.answer)

    pub refused-printed
        : {k m : ℕ} {o p : List ℕ}
        → Wrote k o 0 (refused_line f) p m
        → k ≤ length o
        → Stands (printed_by (first_fault (lent s x w) b) b) o p m
    unfolding printed_by
    refused-printed {m = m} {o = o} {p = p} wrote room =
        subst (λ (text : List ℕ). Stands text o p m) (sym (ap (λ f. printed_by f b) fault)) (stands room wrote)
