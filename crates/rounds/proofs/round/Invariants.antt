-- After i operations, what they did.
use Rattle.std.proofs.Common.{◌≡◌}
use Rattle.rounds.specs.OnTable.{dealing, give_up_to}
use Rattle.rounds.proofs.round.Given as goal

abbrev pub invariant-loop-i : goal.invariant-loop-i
invariant-loop-i l =
    dealing l.rows l.out l.work l.n ≡ give_up_to l.reader.header l.reader.job.now l.i (dealing l.initial.rows l.initial.out l.initial.work l.t)
