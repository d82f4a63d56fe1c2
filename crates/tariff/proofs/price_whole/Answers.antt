use Rattle.std.proofs.Common.{◌∙◌, sym, ap}
use Rattle.std.proofs.lemmas.Result.{err_from_is_err_and}
use Rattle.spec.specs.Check.{numbered}
use Rattle.laws.specs.Codec.Tools.{numbered-none}
use Rattle.wire.specs.Comes.{comes_refused, comes_by}
use Rattle.tariff.proofs.Filled.{index-none}
use Rattle.tariff.proofs.Outcomes.{first, later}
use Rattle.tariff.proofs.price_whole.Goals as goal

pub wrong_band-requires : goal.wrong_band-requires
wrong_band-requires c = index-none

pub returns-in_err-refuses : goal.returns-in_err-refuses
returns-in_err-refuses c =
    let p = err_from_is_err_and c.from_residual.result c.from_residual.ensures.1 in
    rw (p.1, p.2) (comes_refused (first _ (c.in_err-refuses.ensures ∙ ap (numbered 16) c.wrong_band.ensures.0)))

pub invariant_of-bands : goal.invariant_of-bands
invariant_of-bands c =
    let fine = (numbered-none 16 _).0 (sym (c.in_ok-refuses.ensures ∙ ap (numbered 16) c.wrong_band.ensures.0)) in
    record { right = fine; index = c.wrong_band.ensures.1 fine }

pub returns : goal.returns
returns c = comes_by (later _ (c.in_ok-refuses.ensures ∙ ap (numbered 16) c.wrong_band.ensures.0)) c.price_log.ensures
