-- What the calls come to for a C or Rust program: the numbers that it gets, and the whole outcome of a check, a run, of dealing, tidying and pricing.
use Rattle.std.specs.Prelude.{ℕ, ◌≡◌, ◌↔◌, List, [], length, Option, None}
use Rattle.spec.specs.Check.{Fault, job_fault, first_fault}
use Rattle.spec.specs.Outcome.{Outcome, outcome_by, outcome}
use Rattle.spec.specs.Deal.{deal_fault, deal_outcome}
use Rattle.spec.specs.Tidy.{tidy_fault, tidy_outcome}
use Rattle.spec.specs.Tariff.{tariff_fault, price_outcome}
use Rattle.turn.specs.declared.Row.{Row}
use Rattle.run.specs.Call.{lent, Settled}
use Rattle.deal.specs.Call.{Settled as DealSettled}
use Rattle.tidy.specs.Call.{Settled as TidySettled}
use Rattle.tariff.specs.Call.{Settled as PriceSettled}
use Rattle.chargefile.specs.declared.CallOutcome.{CallOutcome}
use Rattle.chargefile.specs.Handed.{handed}

-- The check of the bytes b, which writes no output; r is returned. Refusal 0 is told exactly when no row of the refusal table about a job's bytes holds
pub record CheckCalled (b : List ℕ) (r : CallOutcome) : Type 0 where
  pub handed : r ≡ handed (outcome_by (job_fault b) [])
  pub accepted : (r.refusal ≡ 0) ↔ (job_fault b ≡ None)

-- A call that writes an output, and r is returned: all that its contract settles, with the outcome that its definition gives; the numbers of that
-- outcome; and refusal 0 is told exactly when nothing is refused
pub record HandedOver (settles : Outcome → Type 0) (outcome : Outcome) (fault : Option Fault) (r : CallOutcome) : Type 0 where
  pub settled : settles outcome
  pub handed : r ≡ handed outcome
  pub accepted : (r.refusal ≡ 0) ↔ (fault ≡ None)

-- The run of the bytes b; result buffer, table and memory before (s, x, w) and after (t, y, u)
abbrev pub Called : List ℕ → List ℕ → List ℕ → List Row → List Row → List ℕ → List ℕ → CallOutcome → Type 0
Called b s t x y w u = HandedOver (Settled b s t x y w u) (outcome (lent s x w) b) (first_fault (lent s x w) b)

-- Turns dealt for the job b; output buffer, table and memory before (s, x, w) and after (t, y, u)
abbrev pub DealCalled : List ℕ → List ℕ → List ℕ → List Row → List Row → List ℕ → List ℕ → CallOutcome → Type 0
DealCalled b s t x y w u = HandedOver (DealSettled b s t x y w u) (deal_outcome (lent s x w) b) (deal_fault (lent s x w) b)

-- The charge file b tidied at the wanted depth d; output buffer before (s) and after (t)
abbrev pub TidyCalled : List ℕ → ℕ → List ℕ → List ℕ → CallOutcome → Type 0
TidyCalled b d s t = HandedOver (TidySettled b d s t) (tidy_outcome (length s) d b) (tidy_fault (length s) d b)

-- The calls of the log l priced by the tariff t; output buffer before (s) and after (u)
abbrev pub PriceCalled : List ℕ → List ℕ → List ℕ → List ℕ → CallOutcome → Type 0
PriceCalled t l s u = HandedOver (PriceSettled t l s u) (price_outcome (length s) t l) (tariff_fault (length s) t l)
