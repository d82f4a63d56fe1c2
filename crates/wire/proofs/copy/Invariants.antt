-- The first i bytes are written.
use Rattle.std.specs.Prelude.{◌≡◌, take, drop}
use Rattle.wire.specs.Over.{over}
use Rattle.wire.proofs.copy.Given as goal

abbrev pub invariant-loop-i : goal.invariant-loop-i
invariant-loop-i l = l.to ≡ over l.initial.to l.b (take l.i (take l.n (drop l.a l.from)))
