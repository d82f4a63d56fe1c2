use mathlib.Core.Path.{◌∙◌}
use Rattle.header.specs.Sections.{turn_there}
use Rattle.reader.proofs.Headed.turn.Goals as goal

pub u16_at-requires : goal.u16_at-requires
u16_at-requires c = (turn_there c.args.self.heads _ _ c.requires c.turn_place.ensures.0).room

pub returns : goal.returns
returns c =
    (c.u16_at.ensures.0 ∙ (turn_there c.args.self.heads _ _ c.requires c.turn_place.ensures.0).is, c.u16_at.ensures.1)
