-- `rounds::give` meets its contract: the row is taken out and, where it gets the turn, moved on and put back.
use mathlib.Core.Path.{sym, ◌∙◌}
use native.Mathlib.Omega.{arith}
use Rattle.table.specs.Turns.{moved_on}
use Rattle.rounds.specs.OnTable.{dealing}
use Rattle.rounds.proofs.Giving.{passed, given}
use Rattle.rounds.proofs.give.Goals as goal

pub idles-requires : goal.idles-requires
idles-requires c = c.requires.lock

pub bounds-rows-i : goal.bounds-rows-i
bounds-rows-i c = c.requires.row

pub returns-then-idles : goal.returns-then-idles
returns-then-idles c = passed _ _ _ (dealing c.args.rows.now c.args.out.now c.args.work.now c.args.t) (sym c.idles.ensures ∙ c.if-idles.true)

pub put_u16-requires : goal.put_u16-requires
put_u16-requires c = omega (arith, c.requires.room (sym c.idles.ensures ∙ c.if-idles.false), c.turns_offset.ensures.0)

pub step-requires : goal.step-requires
step-requires c = rw (c.shape_of.ensures, c.op.ensures) (c.requires.moves (sym c.idles.ensures ∙ c.if-idles.false)).safe

pub returns : goal.returns
unfolding moved_on
returns c =
    let a = c.args in
    given a.reader.header a.reader.job.now a.i (dealing a.rows.now a.out.now a.work.now a.t) (sym c.idles.ensures ∙ c.if-idles.false)
    (rw (← c.turns_offset.ensures.0) c.put_u16.ensures)
    (rw (← c.shape_of.ensures, ← c.op.ensures) c.step.ensures)
