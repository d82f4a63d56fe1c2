use mathlib.Core.Path.{ap}
use lib.ListN.{replicate}
use Rattle.print.proofs.table.Goals as goal

pub returns : goal.returns
returns c = ap (replicate 256) c.blank-blank.ensures
