use mathlib.Core.Path.{◌≡◌}
use Prim.Native.Nat.{◌+◌, ◌-◌, ◌≤◌}
use Rattle.turn.specs.Steps.{last_one}
use Rattle.turn.proofs.entries.last_one.Given as goal

abbrev pub invariant-loop-k : goal.invariant-loop-k
invariant-loop-k l =
    (l.last ≤ l.k) × (last_one l.g l.call l.e l.n l.d 1 0 ≡ last_one l.g l.call l.e (l.n - l.k) (l.d + l.k) (l.k + 1) l.last)
