use Rattle.std.proofs.Common.{◌∙◌, sym, ap, arith}
use Rattle.std.proofs.lemmas.Result.{err_from_is_err_and}
use Rattle.std.specs.Option.{option_map}
use Rattle.band.specs.Read.{band_in}
use Rattle.tariff.specs.Call.{fault_at}
use Rattle.tariff.proofs.Refusals.{charge-found, refuse_spare, refuse_band, refuse_charge, refuse_none}
use Rattle.tariff.proofs.bands.Bands.charge.Goals as goal

pub returns-then-logged-ne0-clause-fault : goal.returns-then-logged-ne0-clause-fault
returns-then-logged-ne0-clause-fault c = λ place. refuse_spare _ place _ c.if-logged-ne0.true

pub returns-in_err-band-clause-fault : goal.returns-in_err-band-clause-fault
returns-in_err-band-clause-fault c =
    let p = err_from_is_err_and c.from_residual.result c.from_residual.ensures.1 in
    let none = c.in_err-band.ensures.ok_part in
    let why = rw none at c.in_err-band.ensures.value in
    let nobody = sym c.with_code.ensures.band ∙ ap (option_map band_in) none in
    λ place. rw (p.1, p.2) (ap (fault_at place) why ∙ refuse_band _ place _ (omega arith) nobody)

pub returns-then-charge-gt-MOST_CHARGE-clause-fault : goal.returns-then-charge-gt-MOST_CHARGE-clause-fault
returns-then-charge-gt-MOST_CHARGE-clause-fault c =
    let found = sym c.with_code.ensures.band ∙ ap (option_map band_in) c.in_ok-band.ensures.ok_part in
    λ place. refuse_charge _ place _ _ (omega arith) found (omega arith)

pub returns-clause-fault : goal.returns-clause-fault
returns-clause-fault c =
    let found = sym c.with_code.ensures.band ∙ ap (option_map band_in) c.in_ok-band.ensures.ok_part in
    λ place. refuse_none _ place _ _ (omega arith) found (omega arith)

pub returns-clause-charge : goal.returns-clause-charge
returns-clause-charge c =
    let found = sym c.with_code.ensures.band ∙ ap (option_map band_in) c.in_ok-band.ensures.ok_part in
    c.charge-charge.ensures ∙ sym (charge-found _ _ _ found)
