-- Refusal 0 is told exactly when nothing is refused; and what is handed over, of a check and of each call that writes an output.
use Prim.Native.Nat.{ℕ}
use mathlib.Core.Path.{◌≡◌, refl, sym, ap, subst, ◌∙◌}
use mathlib.Core.Logic.{◌↔◌}
use mathlib.Core.List.{List, []}
use Rattle.std.specs.Prelude.{Option, None, Some, Result, Ok, Err}
use Rattle.std.specs.Result.{result_and}
use Rattle.std.proofs.lemmas.Option.{none-some}
use lib.ListN.{length}
use Rattle.spec.specs.declared.Refusal.{Refusal}
use Rattle.spec.specs.Check.{Fault, job_fault}
use Rattle.spec.specs.Cases.{told, fault_in}
use Rattle.spec.specs.Outcome.{Outcome, outcome_by, outcome}
use Rattle.spec.specs.Deal.{deal_outcome}
use Rattle.spec.specs.Tidy.{tidy_outcome}
use Rattle.spec.specs.Tariff.{price_outcome}
use Rattle.laws.specs.Dealt.{deal-numbered}
use Rattle.laws.specs.Tidy.Bytes.{fault_numbered}
use Rattle.laws.specs.Priced.{price_numbered}
use Rattle.laws.specs.Codec.Numbered.{Numbered, job-numbered, first_numbered}
use Rattle.turn.specs.declared.Row.{Row}
use Rattle.run.specs.Call.{lent, Settled}
use Rattle.deal.specs.Call.{Settled as DealSettled}
use Rattle.tidy.specs.Call.{Settled as TidySettled}
use Rattle.tariff.specs.Call.{Settled as PriceSettled}
use Rattle.chargefile.specs.declared.CallOutcome.{CallOutcome}
use Rattle.chargefile.specs.Handed.{handed}
use Rattle.chargefile.specs.Called.{CheckCalled, HandedOver, Called, DealCalled, TidyCalled, PriceCalled}

-- an outcome that goes by a fault, whose number is not 0
zero-none : (o : Option Fault) (output : List ℕ) → Numbered o → ((handed (outcome_by o output)).refusal ≡ 0) ↔ (o ≡ None)
unfolding handed outcome_by
zero-none None output z = (λ e. refl, λ e. refl)
zero-none (Some f) output z = (λ e. absurd (z f refl e), λ e. absurd (none-some _ (sym e)))

-- a check's answer: where it is accepted, it is done with no output
checked : {A : Type 0} (r : Result A Refusal) → told (result_and r (Ok 0)) ≡ outcome_by (fault_in r) []
unfolding outcome_by
checked (Ok x) = refl
checked (Err e) = refl

-- handed over
pub check_called
    : {A : Type 0} (b : List ℕ) (a : Result A Refusal) {o : Result ℕ Refusal} {r : CallOutcome}
    → fault_in a ≡ job_fault b
    → o ≡ result_and a (Ok 0)
    → r ≡ handed (told o)
    → CheckCalled b r
check_called b a {r = r} f m e =
    let h : r ≡ handed (outcome_by (job_fault b) []) = e ∙ ap handed (ap told m ∙ checked a ∙ ap (λ (q : Option Fault). outcome_by q []) f) in
    record {
      handed = h;
      accepted = subst (λ (v : CallOutcome). (v.refusal ≡ 0) ↔ (job_fault b ≡ None)) (sym h) (zero-none (job_fault b) [] (job-numbered b));
    }

-- a call's outcome o, handed over: it goes by a fault, whose number is not 0
module _ {S : Outcome → Type 0} (fault : Option Fault) (output : List ℕ) (z : Numbered fault) where
  handed_over : {r : CallOutcome} (o : Outcome) → o ≡ outcome_by fault output → S o → r ≡ handed o → HandedOver S (outcome_by fault output) fault r
  handed_over o a h e =
      let f = e ∙ ap handed a in
      record {
        settled = subst S a h;
        handed = f;
        accepted = subst (λ (v : CallOutcome). (v.refusal ≡ 0) ↔ (fault ≡ None)) (sym f) (zero-none fault output z);
      }

module _ {b s t : List ℕ} {x y : List Row} {w u : List ℕ} {r : CallOutcome} (o : Outcome) where
  pub run_called : Settled b s t x y w u o → r ≡ handed o → Called b s t x y w u r
  unfolding outcome
  run_called h = handed_over _ _ (first_numbered (lent s x w) b) o h.answer h

  pub deal_called : DealSettled b s t x y w u o → r ≡ handed o → DealCalled b s t x y w u r
  unfolding deal_outcome
  deal_called h = handed_over _ _ (deal-numbered (lent s x w) b) o h.answer h

pub tidy_called : {b : List ℕ} {d : ℕ} {s t : List ℕ} {r : CallOutcome} (o : Outcome) → TidySettled b d s t o → r ≡ handed o → TidyCalled b d s t r
unfolding tidy_outcome
tidy_called {b} {d} {s} o h = handed_over _ _ (fault_numbered (length s) d b) o h.answer h

pub price_called : {t l s u : List ℕ} {r : CallOutcome} (o : Outcome) → PriceSettled t l s u o → r ≡ handed o → PriceCalled t l s u r
unfolding price_outcome
price_called {t} {l} {s} o h = handed_over _ _ (price_numbered (length s) t l) o h.answer h
