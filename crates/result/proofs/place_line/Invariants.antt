use Rattle.result.proofs.Moving.{Moving}
use Rattle.result.proofs.place_line.Given as goal

abbrev pub invariant-loop-j : goal.invariant-loop-j
invariant-loop-j l = Moving l.initial.res l.at l.lines l.moment l.j l.res
