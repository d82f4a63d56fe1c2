use Rattle.std.proofs.Common.{refl, ap, ◌∙◌, arith}
use Rattle.std.proofs.lemmas.Result.{err_from_is_err_and}
use Rattle.spec.specs.Check.{numbered}
use Rattle.laws.specs.Codec.AsBytes.{are_bytes}
use Rattle.wire.specs.Comes.{comes_refused}
use Rattle.tariff.proofs.Outcomes.{first, later, in-order, settled}
use Rattle.tariff.proofs.price.Goals as goal

pub returns-in_err-refuses : goal.returns-in_err-refuses
returns-in_err-refuses c =
    let bytes = are_bytes c.args.log.now (λ j. omega (arith, c.type_inv.log j)) in
    let p = err_from_is_err_and c.from_residual.result c.from_residual.ensures.1 in
    let bands = first _ (c.in_err-refuses.ensures ∙ ap (numbered 1) c.not_whole.ensures) in
    rw (p.1, p.2) (settled bytes (in-order _ _ _ ∙ bands) (comes_refused refl))

pub returns-in_err-refuses-2 : goal.returns-in_err-refuses-2
returns-in_err-refuses-2 c =
    let bytes = are_bytes c.args.log.now (λ j. omega (arith, c.type_inv.log j)) in
    let p = err_from_is_err_and c.from_residual-in_err-refuses-2.result c.from_residual-in_err-refuses-2.ensures.1 in
    let bands = later _ (c.in_ok-refuses.ensures ∙ ap (numbered 1) c.not_whole.ensures) in
    let records = first _ (c.in_err-refuses-2.ensures ∙ ap (numbered 1) c.not_whole-2.ensures) in
    rw (p.1, p.2) (settled bytes (in-order _ _ _ ∙ bands ∙ records) (comes_refused refl))

pub returns : goal.returns
returns c =
    let bytes = are_bytes c.args.log.now (λ j. omega (arith, c.type_inv.log j)) in
    let bands = later _ (c.in_ok-refuses.ensures ∙ ap (numbered 1) c.not_whole.ensures) in
    let records = later _ (c.in_ok-refuses-2.ensures ∙ ap (numbered 1) c.not_whole-2.ensures) in
    settled bytes (in-order _ _ _ ∙ bands ∙ records) c.price_whole.ensures
