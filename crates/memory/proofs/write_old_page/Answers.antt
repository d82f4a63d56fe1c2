use Prim.Native.Nat.{suc}
use native.Mathlib.Omega.{arith}
use Rattle.spec.specs.Split.{grow}
use Rattle.memory.specs.Memory.{page_in}
use Rattle.memory.specs.Places.{part_room, part_sound}
use Rattle.memory.specs.Lent.{lent, rewritten}
use Rattle.memory.proofs.write_old_page.Goals as goal

pub write_old-requires : goal.write_old-requires
write_old-requires c =
    let o = c.requires.0 in
    rw (lent c.args.c c.args.x c.args.work.now c.span.ensures.begins c.span.ensures.ends, part_room o)
    (part_sound o (omega (arith, c.requires.1.full)), unfold page_in in c.requires.1, unfold page_in in c.requires.2)

pub returns : goal.returns
returns c =
    let w = c.args in
    let done = c.write_old in
    λ g h.
    rewritten (λ k p. (grow k (suc g) p w.r).old) done.new.page c.requires.0 c.span.ensures done.auto.page
    (done.ensures g (rw (lent w.c w.x w.work.now c.span.ensures.begins c.span.ensures.ends) (unfold page_in in h)))
