-- `table::tell_rows` meets its contract: each pass tells one row more, and at most one of each is under way.
use Rattle.std.proofs.Common.{arith, sym}
use Rattle.table.specs.Told.{told}
use Rattle.table.proofs.Telling.{none_told, counted, more_told, few_told}
use Rattle.table.proofs.tell_rows.Goals as goal

pub loop-i-init : goal.loop-i-init
loop-i-init c = (omega arith, sym (none_told _ _))

pub overflow_add-under : goal.overflow_add-under
overflow_add-under c =
    let v = c.from-under in
    omega (arith, few_told c.args.rows.now c.loop-i.i c.args.res.now c.args.work.now v.result c.loop-i.invariant.1 (counted c.tell.result v.ensures c.tell.ensures.0))

pub loop-i-preserved : goal.loop-i-preserved
loop-i-preserved c =
    let a = c.args in
    let t = c.tell in
    let v = c.from-under in (
      omega arith,
      more_told a.rows.now c.loop-i.i (told a.res.now a.work.now 0) t.new.res t.new.work v.result c.loop-i.invariant.1
          (counted t.result v.ensures t.ensures.0, t.ensures.1, t.ensures.2),
    )
