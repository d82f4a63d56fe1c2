-- `before::count_records` meets its contract: the numbers up to entry j are written, and `sum` is the last of them.
use mathlib.Core.Path.{sym, ◌∙◌}
use native.Mathlib.Omega.{arith}
use lib.ListN.{length-set}
use lib.Seq.{get_or-set_same}
use Rattle.spec.specs.Decode.{file_of}
use Rattle.laws.specs.Tidy.Spans.{before-zero}
use Rattle.tidy.proofs.Known.{depth_is}
use Rattle.tidy.proofs.Counting.{upto_none, sum_next, upto_next, sum_few}
use Rattle.tidy.proofs.before.count_records.Goals as goal

pub loop-j-init : goal.loop-j-init
loop-j-init c =
    let f = file_of c.args.file.reader.job.now in
    let s = c.args.counts.now in
    record { size = length-set s 0 0 ∙ omega arith; sum = sym (before-zero f); written = upto_none f _ (get_or-set_same s 0 0 0 (omega arith)) }

pub overflow_add-sum : goal.overflow_add-sum
overflow_add-sum c = omega (arith, c.records_at-sum.ensures.few, sum_few c.args.file.given c.loop-j.j c.loop-j.sum (omega (arith, c.entries-j-end.ensures.0)) c.loop-j.invariant.sum)

pub overflow_cast-counts : goal.overflow_cast-counts
overflow_cast-counts c = omega (arith, c.records_at-sum.ensures.few, sum_few c.args.file.given c.loop-j.j c.loop-j.sum (omega (arith, c.entries-j-end.ensures.0)) c.loop-j.invariant.sum)

pub loop-j-preserved : goal.loop-j-preserved
loop-j-preserved c =
    let l = c.loop-j in
    let f = file_of c.args.file.reader.job.now in
    let next = sum_next f l.j l.sum _ l.invariant.sum c.records_at-sum.ensures.is in
    record {
      size = length-set l.counts _ _ ∙ l.invariant.size;
      sum = next;
      written = upto_next f l.counts l.j _ (omega (arith, l.invariant.size, c.entries-j-end.ensures.1)) next l.invariant.written;
    }

pub returns : goal.returns
returns c = λ j u.
    let l = c.loop-j in
    l.invariant.written j (omega (arith, depth_is c.args.file.given, c.entries-j-end.ensures.0, rw (depth_is c.args.file.given) at u))
