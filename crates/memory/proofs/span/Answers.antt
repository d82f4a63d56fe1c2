use mathlib.Core.Path.{refl}
use native.Mathlib.Omega.{arith}
use Rattle.memory.specs.Memory.{place_of}
use Rattle.memory.specs.Places.{pages-fit}
use Rattle.memory.proofs.span.Goals as goal

pub returns : goal.returns
unfolding place_of
returns c =
    rw (c.page_size-size.ensures.0) (record { begins = refl; ends = refl; within = omega (arith, pages-fit c.args.c c.args.x c.requires.0 c.requires.1) })
