-- `left::find` meets its contract: so many depths are written, and those from entry j on are left.
use mathlib.Core.Path.{◌∙◌}
use native.Mathlib.Omega.{arith}
use lib.ListN.{length-set}
use Rattle.tidy.proofs.Known.{entries-most}
use Rattle.tidy.proofs.Counting.{depths_next, depths_all}
use Rattle.tidy.proofs.left.find.Goals as goal

pub loop-j-preserved : goal.loop-j-preserved
loop-j-preserved c =
    let l = c.loop-j in
    record {
      size = length-set l.buffer _ _ ∙ l.invariant.size;
      slow = omega (arith, c.run-j.ensures.some);
      few = omega arith;
      found = depths_next c.args.file.given l.buffer l.count l.j _ _ (omega (arith, l.invariant.size, entries-most c.args.file.given)) (omega (arith, c.entries.ensures.0)) c.depth_on-l.ensures.is c.run-j.ensures.is l.invariant.found;
    }

pub returns : goal.returns
returns c = record {
  found = depths_all c.args.file.given c.loop-j.buffer c.loop-j.count c.loop-j.j (omega (arith, c.entries.ensures.0)) c.loop-j.invariant.found;
  few = omega (arith, c.loop-j.invariant.few, entries-most c.args.file.given);
}
