use Rattle.result.proofs.Logging.{Logging}
use Rattle.result.proofs.write_log.Given as goal

abbrev pub invariant-loop-i : goal.invariant-loop-i
invariant-loop-i l = Logging l.work l.m l.initial.res l.at l.i l.res l.lines
