use mathlib.Core.Path.{◌∙◌}
use native.Mathlib.Omega.{arith}
use Rattle.header.specs.Sections.{entry_there}
use Rattle.reader.proofs.Headed.entry.Goals as goal

pub overflow_mul-j : goal.overflow_mul-j
overflow_mul-j c = omega (arith, (entry_there c.args.self.heads _ c.requires).room)

pub overflow_add-j : goal.overflow_add-j
overflow_add-j c = omega (arith, (entry_there c.args.self.heads _ c.requires).room)

pub u16_at-requires : goal.u16_at-requires
u16_at-requires c = (entry_there c.args.self.heads _ c.requires).room

pub returns : goal.returns
returns c = (c.u16_at.ensures.0 ∙ (entry_there c.args.self.heads _ c.requires).is, c.u16_at.ensures.1)
