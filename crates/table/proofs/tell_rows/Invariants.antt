-- After i rows, what is told is what the first i rows tell.
use Rattle.std.proofs.Common.{◌≡◌, ◌≤◌}
use Rattle.table.specs.Told.{told, tell_rows}
use Rattle.table.proofs.tell_rows.Given as goal

abbrev pub invariant-loop-i : goal.invariant-loop-i
invariant-loop-i l = (l.i ≤ l.m) × (told l.res l.work l.under ≡ tell_rows l.rows l.i (told l.initial.res l.initial.work 0))
