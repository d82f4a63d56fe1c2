use mathlib.Core.Path.{◌≡◌}
use mathlib.Core.List.{List}
use Prim.Native.Nat.{ℕ}
use native.Mathlib.Omega.{arith}
use lib.ListN.{length, take, drop}
use lib.Seq.{take-length}
use Rattle.wire.specs.Over.{over}
use Rattle.memory.specs.Memory.{place_of, with_used, with_locks}
use Rattle.memory.specs.Load.{loaded}
use Rattle.memory.specs.Places.{pages_end}
use Rattle.memory.proofs.load_file.Goals as goal

-- the memory, step by step
steps
    : {w₁ w₂ w₃ w₄ : List ℕ} {at : ℕ} (w d p : List ℕ) (c u : ℕ)
    → w₁ ≡ over w 0 (take (length d) (drop 0 d))
    → at ≡ place_of c 1
    → w₂ ≡ over w₁ at (take (length p) (drop 0 p))
    → w₃ ≡ with_used w₂ u
    → w₄ ≡ with_locks w₃ 0 257 0
    → w₄ ≡ loaded w d p c u
unfolding loaded
steps w d p c u e₁ e e₂ e₃ e₄ = rw (e₄, e₃, e₂, e, e₁, take-length d, take-length p)

pub copy-requires-2 : goal.copy-requires-2
copy-requires-2 c =
    (omega arith, omega (arith, pages_end c.args.c 256 c.requires.capacity (omega arith), c.span.ensures.begins, c.requires.pages, c.requires.size))

pub returns : goal.returns
returns c =
    let a = c.args in
    steps a.work.now a.directory.now a.pages.now a.c a.used c.copy.ensures c.span.ensures.begins c.copy-2.ensures c.set_used.ensures c.set_locks.ensures
