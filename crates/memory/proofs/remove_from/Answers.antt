use Rattle.spec.specs.Turn.{cleared}
use Rattle.memory.specs.Places.{part_sound}
use Rattle.memory.specs.Lent.{lent, rewritten}
use Rattle.memory.proofs.remove_from.Goals as goal

pub remove-requires : goal.remove-requires
remove-requires c = rw (lent c.args.c c.args.x c.args.work.now c.span.ensures.begins c.span.ensures.ends) (part_sound c.requires.0 c.requires.1)

pub returns : goal.returns
returns c =
    let done = c.remove in
    rewritten (λ k p. cleared p c.args.call) done.new.page c.requires.0 c.span.ensures done.auto.page done.ensures
