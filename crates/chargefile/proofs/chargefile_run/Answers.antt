use Rattle.chargefile.proofs.Laws.{run_called}
use Rattle.chargefile.proofs.chargefile_run.Goals as goal

pub returns : goal.returns
returns c = run_called _ c.run.ensures c.from.ensures
