use Prim.Native.Nat.{◌+◌, ◌*◌}
use Rattle.spec.specs.Job.{page_size}
use Rattle.memory.specs.Memory.{place_of}
use lib.ListN.{take, drop}
use Rattle.wire.specs.Parts.{length_part}
use native.Mathlib.Omega.{arith}
use Rattle.memory.specs.Load.{saved}
use Rattle.memory.specs.Places.{pages_end}
use Rattle.wire.specs.OverLaws.{over-over}
use Rattle.memory.proofs.save_file.Goals as goal

pub copy-requires-2 : goal.copy-requires-2
copy-requires-2 c =
    rw (c.page_size.ensures.0) (omega (arith, pages_end c.args.c c.args.pages c.requires.capacity c.requires.pages, c.span.ensures.begins, c.requires.room))

pub returns : goal.returns
unfolding saved
returns c =
    let g = c.args in
    let size = length_part g.work.now 0 (2 * g.entries) (omega (arith, c.requires.entries)) in
    let pages = take (page_size g.c * g.pages) (drop (place_of g.c 1) g.work.now) in
    cc (c.page_size.ensures.0, over-over (take (2 * g.entries) g.work.now) pages g.out.now g.at (g.at + 2 * g.entries) (omega (arith, size)))
