use Prim.Native.Nat.{suc, ◌-◌}
use native.Mathlib.Omega.{arith}
use lib.ListN.{get_or}
use Rattle.spec.specs.File.{zero_page}
use Rattle.spec.specs.Split.{grow}
use Rattle.memory.specs.Memory.{page_in}
use Rattle.memory.specs.Places.{part_room, part_sound}
use Rattle.memory.specs.Lent.{page-before, copied, lent_copy, rewritten_copy}
use Rattle.memory.proofs.write_new_page.Goals as goal

pub write_new-requires : goal.write_new-requires
write_new-requires c =
    let o = c.requires.0 in
    let b = page-before o c.requires.1 in
    let k = copied o c.requires.1 c.span.ensures (rw c.span-2.ensures.begins at c.copy_within.ensures.after) in
    rw (lent_copy o c.requires.1 k c.span-3.ensures, part_room b)
    (part_sound b (omega (arith, c.requires.2.full)), unfold page_in in c.requires.2, unfold page_in in c.requires.3, c.requires.4, c.requires.5)

pub returns : goal.returns
returns c =
    let o = c.requires.0 in
    let k = copied o c.requires.1 c.span.ensures (rw c.span-2.ensures.begins at c.copy_within.ensures.after) in
    let done = c.write_new in
    λ g h.
    rewritten_copy o c.requires.1 k c.span-3.ensures (λ q p. get_or (grow q (suc g) p c.args.r).news (c.args.i - 1) zero_page) done.new.page
    done.auto.page (done.ensures g (rw (lent_copy o c.requires.1 k c.span-3.ensures) (unfold page_in in h)))
