-- `check_all` answers with the first row that holds: the job's own, then the lent lengths.
use mathlib.Core.Path.{◌≡◌}
use Rattle.std.proofs.lemmas.Result.{err_from_is_err_and}
use Rattle.spec.specs.Check.{small_output}
use Rattle.laws.specs.Codec.Answer.{no_fault, its_fault}
use Rattle.run.specs.Call.{lengths}
use Rattle.run.proofs.Ends.{by_job, by_lent}
use Rattle.run.proofs.check_all.Goals.{After-small_output}
use Rattle.run.proofs.check_all.Goals as goal

-- what was looked at last is the row about what is lent
lent_looked : (c : After-small_output) → c.small_output.result ≡ small_output (lengths c.args.lent) c.args.job.now
lent_looked c = rw c.in_ok-reader.ensures.read at c.small_output.ensures

pub returns-in_err-reader-clause-fault : goal.returns-in_err-reader-clause-fault
returns-in_err-reader-clause-fault c =
    let p = err_from_is_err_and c.from_residual.result c.from_residual.ensures.1 in
    rw (p.1, p.2) (by_job _ _ _ (its_fault c.check.ensures.fault c.in_err-reader.was))

pub returns-in_err-refuses-clause-fault : goal.returns-in_err-refuses-clause-fault
returns-in_err-refuses-clause-fault c =
    let p = err_from_is_err_and c.from_residual-in_err-refuses.result c.from_residual-in_err-refuses.ensures.1 in
    rw (p.1, p.2)
    (by_lent _ _ _ _ (no_fault c.check.ensures.fault c.in_ok-reader.was) (lent_looked (goal.at.returns-in_err-refuses-clause-fault c).After-small_output)
    (its_fault c.refuses.ensures c.in_err-refuses.was))

pub returns-clause-fault : goal.returns-clause-fault
returns-clause-fault c =
    by_lent _ _ _ _ (no_fault c.check.ensures.fault c.in_ok-reader.was) (lent_looked (goal.at.returns-clause-fault c).After-small_output)
    (no_fault c.refuses.ensures c.in_ok-refuses.was)
