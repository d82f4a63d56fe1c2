-- `put_entries` meets its contract: i entries are written.
use mathlib.Core.Path.{◌≡◌}
use Prim.Native.Nat.{◌*◌}
use lib.ListN.{replicate}
use Rattle.spec.specs.Basics.{each}
use Rattle.spec.specs.Bytes.{two}
use Rattle.wire.specs.Over.{over}
use Rattle.tidy.proofs.directory.put_entries.Given as goal

abbrev pub invariant-loop-i : goal.invariant-loop-i
invariant-loop-i l = l.dir ≡ over l.initial.dir (2 * l.j) (each two (replicate l.i l.x))
