use Rattle.std.proofs.Common.{◌≡◌, take}
use Rattle.spec.specs.Basics.{each}
use Rattle.wire.specs.Over.{over}
use Rattle.wire.specs.Low.{low}
use Rattle.wire.proofs.put_all.Given as goal

abbrev pub invariant-loop-i : goal.invariant-loop-i
invariant-loop-i g l = l.s ≡ over l.initial.s l.at (each (low g.row.N) (take l.i l.numbers))
