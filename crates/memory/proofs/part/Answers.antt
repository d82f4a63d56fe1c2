use mathlib.Core.Path.{refl, sym}
use Rattle.memory.specs.Places.{part_count, part_length}
use Rattle.memory.specs.Lent.{lent}
use Rattle.memory.proofs.part.Goals as goal

pub returns : goal.returns
returns c =
    let g = c.args in
    rw (lent g.c g.x g.work.now c.span.ensures.begins c.span.ensures.ends) (refl, part_length c.requires, sym (part_count g.c g.work.now g.x))
