use Rattle.chargefile.proofs.Laws.{price_called}
use Rattle.chargefile.proofs.chargefile_price.Goals as goal

pub returns : goal.returns
returns c = price_called _ c.price.ensures c.from.ensures
