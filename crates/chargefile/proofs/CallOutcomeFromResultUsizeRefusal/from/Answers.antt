use Rattle.chargefile.specs.Handed.{handed}
use Rattle.chargefile.proofs.CallOutcomeFromResultUsizeRefusal.from.Goals as goal

pub returns-in-Ok : goal.returns-in-Ok
unfolding handed
returns-in-Ok c = rw c.in-Ok.is

pub returns-in-Err : goal.returns-in-Err
unfolding handed
returns-in-Err c = rw (c.in-Err.is, c.number.ensures)
