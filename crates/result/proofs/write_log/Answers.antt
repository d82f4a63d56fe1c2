use native.Mathlib.Omega.{arith}
use Rattle.result.proofs.Logging.{start, skip, more, finish}
use Rattle.result.proofs.write_log.Goals.{in-Some, in_default}
use Rattle.result.proofs.write_log.Goals as goal

pub loop-i-init : goal.loop-i-init
loop-i-init c =
    let a = c.args in
    start a.work.now a.m a.res.now a.at

pub loop-i-preserved : goal.loop-i-preserved
loop-i-preserved c =
    elim c.match-moment.branch [
      | in-Some w ↦
          rw (w.res-is, w.lines-is) (more c.moment.ensures (omega arith) c.loop-i.invariant w.in-Some.is (omega arith) (omega arith) w.place_line.ensures)
      | in_default w ↦ rw (w.res-is, w.lines-is) (skip c.moment.ensures (omega arith) c.loop-i.invariant w.in_default.is)
    ]

pub returns : goal.returns
returns c = finish (omega arith) c.loop-i.invariant
