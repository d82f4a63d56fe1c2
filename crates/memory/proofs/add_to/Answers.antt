use native.Mathlib.Omega.{arith}
use Rattle.spec.specs.Split.{added}
use Rattle.memory.specs.Places.{part_count, part_room, part_sound}
use Rattle.memory.specs.Lent.{lent, rewritten}
use Rattle.memory.proofs.add_to.Goals as goal

pub add-requires : goal.add-requires
add-requires c =
    let g = c.args in
    let o = c.requires.0 in
    rw (lent g.c g.x g.work.now c.span.ensures.begins c.span.ensures.ends, part_room o) (part_sound o (omega arith), omega (arith, part_count g.c g.work.now g.x, c.requires.1))

pub returns : goal.returns
returns c =
    let done = c.add in
    rewritten (λ k p. added p c.args.r) done.new.page c.requires.0 c.span.ensures done.auto.page done.ensures
