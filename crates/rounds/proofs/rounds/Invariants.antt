-- After some rounds, what they did; and how many turns there can be yet.
use Rattle.std.proofs.Common.{◌-◌, ◌+◌}
use Rattle.spec.specs.Deal.{max_dealt}
use Rattle.rounds.specs.OnTable.{dealing}
use Rattle.rounds.proofs.Rounding.{Upto}
use Rattle.rounds.proofs.rounds.Given as goal

abbrev pub invariant-loop-n : goal.invariant-loop-n
invariant-loop-n l = Upto l.fn.h l.job (dealing l.initial.rows l.initial.out l.initial.work 0) (dealing l.rows l.out l.work l.n)

abbrev pub decreases-loop-n : goal.decreases-loop-n
decreases-loop-n l = max_dealt + 1 - l.n
