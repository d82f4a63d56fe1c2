-- `table::turns` meets its contract: each pass takes one turn more of the list.
use Rattle.std.proofs.Common.{arith, sym, ◌∙◌}
use Rattle.table.proofs.Turning.{none_run, turned}
use Rattle.table.specs.Turns.{both}
use Rattle.table.proofs.turns.Goals as goal

pub loop-t-init : goal.loop-t-init
loop-t-init c = (omega arith, sym (none_run _ _ _ _))

pub loop-t-preserved : goal.loop-t-preserved
loop-t-preserved c =
    let a = c.args in (
      omega arith,
      c.take_turn.ensures
          ∙ turned a.shape a.ops.now a.list.now c.loop-t.t c.turn_at-i.result (both a.rows.now a.work.now) _ c.turn_at-i.ensures.0 c.loop-t.invariant.1,
    )
