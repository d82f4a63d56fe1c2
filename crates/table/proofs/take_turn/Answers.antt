-- `table::take_turn` meets its contract: what moved on is put back in the row's place, and who would do nothing stays as it is.
use Rattle.std.proofs.Common.{ap, sym, ◌∙◌}
use Rattle.std.proofs.Math.ListN.{set}
use Rattle.turn.specs.Idle.{safe_lockable}
use Rattle.turn.specs.Steps.{Out}
use Rattle.table.specs.Turns.{both, turn_on, moved_on}
use Rattle.table.proofs.Turning.{idle_turn}
use Rattle.table.proofs.take_turn.Goals as goal

pub idles-requires : goal.idles-requires
idles-requires c = safe_lockable _ _ _ _ c.requires.1.safe

pub step-requires : goal.step-requires
step-requires c = rw c.op_at-op.ensures c.requires.1.safe

pub returns-then-not-idles : goal.returns-then-not-idles
unfolding turn_on moved_on
returns-then-not-idles c = ap (λ (u : Out). both (set c.args.rows.now c.args.i u.row) u.work) (rw (← c.op_at-op.ensures) c.step.ensures)

pub returns-else-not-idles : goal.returns-else-not-idles
returns-else-not-idles c = sym (idle_turn _ _ _ _ (both c.args.rows.now c.args.work.now) (sym c.idles.ensures ∙ c.if-not-idles.false))
