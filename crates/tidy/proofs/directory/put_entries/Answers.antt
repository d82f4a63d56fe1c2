-- `put_entries` meets its contract: i entries are written, and then one more.
use Prim.Native.Nat.{◌*◌}
use Rattle.tidy.proofs.Table.{entries_none, entries_next}
use Rattle.tidy.proofs.directory.put_entries.Goals as goal

pub loop-i-init : goal.loop-i-init
loop-i-init c = entries_none c.args.dir.now (2 * c.args.j) c.args.x

pub loop-i-preserved : goal.loop-i-preserved
loop-i-preserved c = entries_next c.args.dir.now c.args.j c.loop-i.i c.args.x c.loop-i.invariant c.put_u16.ensures
