use mathlib.Core.Path.{◌≡◌, ap, ◌∙◌}
use Prim.Native.Nat.{◌+◌, ◌-◌}
use native.Mathlib.Omega.{arith}
use lib.ListN.{replicate, length-replicate}
use Rattle.wire.specs.Parts.{over_part, length_part}
use Rattle.memory.specs.Memory.{with_locks}
use Rattle.memory.proofs.set_locks.Goals as goal

pub returns : goal.returns
unfolding with_locks
returns c =
    let a = c.args in
    let size : 512 + a.x + a.n - (512 + a.x) ≡ a.n = omega arith in
    let part = rw size at c.fill.ensures.after (λ y e. e) in
    let filled : c.fill.new.self ≡ replicate a.n a.v = part ∙ ap (λ k. replicate k a.v) (length_part a.work.now (512 + a.x) a.n (omega arith)) in
    rw (size, filled) (over_part a.work.now (replicate a.n a.v) (512 + a.x) a.n (length-replicate a.n a.v) (omega arith))
