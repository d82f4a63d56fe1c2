-- What a call that writes an output comes to, step by step: refused, nothing is written; done, the output stands first in the buffer.
use Rattle.std.specs.Prelude.{ℕ, ◌≤◌, ◌≡◌, List, length, Option, None, Some, Ok, Err}
use Rattle.std.proofs.Common.{◌∙◌}
use Rattle.spec.specs.Check.{Fault}
use Rattle.spec.specs.Outcome.{Outcome, outcome_by, after_call, buffer_by}
use Rattle.wire.specs.Over.{over}
use Rattle.wire.specs.OverLaws.{over-front}

-- the answer r, and the buffer afterwards, t, which was s, where this is the first fault, or there is none
pub record Comes (fault : Option Fault) (output s t : List ℕ) (r : Outcome) : Type 0 where
  pub answer : r ≡ outcome_by fault output
  pub buffer : t ≡ buffer_by fault output s

pub comes_refused : {fault : Option Fault} {f : Fault} {output s : List ℕ} → fault ≡ Some f → Comes fault output s s (Err f)
unfolding outcome_by buffer_by after_call
comes_refused e = record { answer = rw e; buffer = rw e }

pub comes_done
    : {fault : Option Fault} {output s t : List ℕ} {n : ℕ}
    → fault ≡ None
    → n ≡ length output
    → t ≡ over s 0 output
    → length output ≤ length s
    → Comes fault output s t (Ok n)
unfolding outcome_by buffer_by after_call
comes_done {output = output} {s = s} e l w u = record { answer = rw (e, l); buffer = rw e (w ∙ over-front output s u) }

-- a fault that does not hold is passed over
pub comes_by : {fault later : Option Fault} {output s t : List ℕ} {r : Outcome} → fault ≡ later → Comes later output s t r → Comes fault output s t r
comes_by e c = record { answer = rw e c.answer; buffer = rw e c.buffer }
