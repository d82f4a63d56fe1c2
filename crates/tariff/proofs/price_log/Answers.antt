use Rattle.std.proofs.Common.{sym}
use Rattle.std.proofs.lemmas.Result.{err_from_is_err_and}
use Rattle.laws.specs.Priced.{size}
use Rattle.wire.specs.Comes.{comes_refused, comes_done}
use Rattle.tariff.proofs.Outcomes.{passed}
use Rattle.tariff.proofs.price_log.Goals as goal

pub returns-in_err-wrong_log : goal.returns-in_err-wrong_log
returns-in_err-wrong_log c =
    let p = err_from_is_err_and c.from_residual.result c.from_residual.ensures.1 in
    rw (p.1, p.2) (comes_refused (sym c.in_err-wrong_log.ensures))

pub write-requires : goal.write-requires
write-requires c = passed _ _ _ (sym c.in_ok-wrong_log.ensures)

pub returns : goal.returns
returns c =
    let fine = sym c.in_ok-wrong_log.ensures in
    comes_done fine c.write.ensures.0 c.write.ensures.1 (rw size (passed _ _ _ fine).1)
