-- What an answer says of the fault that it is about: a row of the table, or all of them.
use Rattle.std.specs.Prelude.{ℕ, ◌≡◌, Option, None, Some, Result, Ok, Err}
use Rattle.std.proofs.Common.{sym, ap, ◌∙◌}
use Rattle.spec.specs.declared.Refusal.{Refusal}
use Rattle.spec.specs.Check.{Fault, numbered}
use Rattle.spec.specs.Cases.{fault_of, fault_in}
use Rattle.laws.specs.Codec.Tools.{numbered-none}

-- what is answered `Ok` has no fault, and what is refused has the fault that is told
pub no_fault : {A : Type 0} {o : Option Fault} {r : Result A Refusal} {x : A} → fault_in r ≡ o → r ≡ Ok x → o ≡ None
no_fault e w = sym e ∙ ap fault_in w

pub its_fault : {A : Type 0} {o : Option Fault} {r : Result A Refusal} {f : Refusal} → fault_in r ≡ o → r ≡ Err f → o ≡ Some (fault_of f)
its_fault e w = sym e ∙ ap fault_in w

-- a row that is answered `Ok` holds nowhere
pub row_passed : {A : Type 0} (n : ℕ) (o : Option ℕ) {r : Result A Refusal} {x : A} → fault_in r ≡ numbered n o → r ≡ Ok x → o ≡ None
row_passed n o e w = (numbered-none n o).0 (no_fault e w)
