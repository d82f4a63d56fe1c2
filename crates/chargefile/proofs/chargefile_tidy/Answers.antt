use Rattle.chargefile.proofs.Laws.{tidy_called}
use Rattle.chargefile.proofs.chargefile_tidy.Goals as goal

pub returns : goal.returns
returns c = tidy_called _ c.tidy.ensures c.from.ensures
