use Rattle.chargefile.proofs.Laws.{check_called}
use Rattle.chargefile.proofs.chargefile_check.Goals as goal

pub returns : goal.returns
returns c = check_called c.args.job.now c.check.result c.check.ensures.fault c.and.ensures c.from.ensures
