-- What a call of `price` comes to.
use Rattle.std.specs.Prelude.{ℕ, ◌≡◌, List, length, Option, None, Some, Result, Ok, Err}
use Rattle.spec.specs.declared.Kind.TheVariants.{Insert}
use Rattle.spec.specs.declared.Op.{Op}
use Rattle.spec.specs.declared.Reason.{Reason}
use Rattle.spec.specs.Basics.{or_else}
use Rattle.spec.specs.Cases.{reason_number}
use Rattle.spec.specs.Check.{Fault, numbered}
use Rattle.spec.specs.Outcome.{Outcome}
use Rattle.spec.specs.Tariff.{wrong_band, wrong_logged, small_for_inserts, tariff_fault, price_outcome, price_buffer}
use Rattle.spec.specs.Priced.{Priced}

-- The whole outcome for the tariff t and the log l, done or refused: what is answered, and the output buffer afterwards, which was s; and where it is
-- done, all that is claimed of the output
pub record Settled (t l s u : List ℕ) (r : Outcome) : Type 0 where
  pub answer : r ≡ price_outcome (length s) t l
  pub output : u ≡ price_buffer t l s
  pub priced : tariff_fault (length s) t l ≡ None → Priced t l

-- what is refused of whole bands and whole records: the records, then 11; and before them 16
abbrev pub log_fault : ℕ → List ℕ → List ℕ → Option Fault
log_fault room t l = or_else (wrong_logged t l) (numbered 11 (small_for_inserts room l))

abbrev pub bands_fault : ℕ → List ℕ → List ℕ → Option Fault
bands_fault room t l = or_else (numbered 16 (wrong_band t)) (log_fault room t l)

abbrev pub insert_of : ℕ → ℕ → Op
insert_of call charge = record { kind = Insert; call = call; charge = charge }

-- why a record that stands at this place is refused
abbrev pub fault_at : {A : Type 0} → ℕ → Result A Reason → Option Fault
fault_at place (Ok x) = None
fault_at place (Err r) = Some (record { number = reason_number r; place = place })
