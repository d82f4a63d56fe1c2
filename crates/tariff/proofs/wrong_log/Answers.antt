use Rattle.std.proofs.Common.{◌∙◌, sym, ap}
use Rattle.std.proofs.lemmas.Result.{err_from_is_err_and}
use Rattle.spec.specs.Check.{numbered}
use Rattle.spec.specs.SwitchLog.{logged_of}
use Rattle.switchlog.specs.Parts.{reads-count}
use Rattle.tariff.proofs.Outcomes.{first, later, small}
use Rattle.tariff.proofs.wrong_log.Goals as goal

pub returns-in_err-wrong_logged : goal.returns-in_err-wrong_logged
returns-in_err-wrong_logged c =
    let p = err_from_is_err_and c.from_residual.result c.from_residual.ensures.1 in
    rw (p.1, p.2) (sym (first _ c.in_err-wrong_logged.ensures))

pub returns : goal.returns
returns c =
    let n = reads-count logged_of _ _ c.records.ensures in
    c.refuses.ensures ∙ ap (numbered 11) (c.then_some.ensures ∙ small c.args.room _ c.args.log.now n) ∙ sym (later _ c.in_ok-wrong_logged.ensures)
