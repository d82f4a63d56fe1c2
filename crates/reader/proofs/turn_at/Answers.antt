use Rattle.reader.specs.Parts.{turn_at}
use Rattle.reader.proofs.turn_at.Goals as goal

pub returns : goal.returns
unfolding turn_at
returns c = c.u16_at.ensures
