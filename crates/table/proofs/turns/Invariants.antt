-- After t turns, table and memory are as after the first t turns of the list.
use Rattle.std.proofs.Common.{◌≡◌, ◌/◌, ◌≤◌, length}
use Rattle.spec.specs.Job.{turn_size}
use Rattle.table.specs.Turns.{both, run_turns}
use Rattle.table.proofs.turns.Given as goal

abbrev pub invariant-loop-t : goal.invariant-loop-t
invariant-loop-t l =
    (l.t ≤ length l.list / turn_size) × (both l.rows l.work ≡ run_turns l.shape l.ops l.list l.t (both l.initial.rows l.initial.work))
