-- `print::run_here` meets its contract: the table lent is the full one, and is blank again afterwards.
use Rattle.print.proofs.Laws.{settled_here}
use Rattle.print.proofs.run_here.Goals as goal

pub returns : goal.returns
returns c = settled_here (rw c.table-rows.ensures at c.run.ensures)
