use Rattle.chargefile.proofs.Laws.{deal_called}
use Rattle.chargefile.proofs.chargefile_deal.Goals as goal

pub returns : goal.returns
returns c = deal_called _ c.deal.ensures c.from.ensures
