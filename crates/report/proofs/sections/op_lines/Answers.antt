use Rattle.std.proofs.Common.{rules, arith, sym, ap, ◌∙◌, ◌≡◌, ◌+◌, ◌/◌, length, length-append}
use Rattle.std.specs.Iterator.Adapters.{zip_first, zip_second}
use Rattle.std.specs.Slice.Iter.{chunks_exact_rest, chunks_exact_size}
use Rattle.spec.specs.Bytes.{parts}
use Rattle.spec.specs.Report.{op_lines}
use Rattle.text.specs.AddedLaws.{none, then, same, wider}
use Rattle.text.specs.Sections.{none_taken, one_taken, count_taken}
use Rattle.report.proofs.Laws.{op-more}
use Rattle.report.proofs.sections.op_lines.Goals as goal

pub loop-i-init : goal.loop-i-init
unfolding op_lines parts
loop-i-init c =
    let from = c.enumerate-i-items.ensures in
    let ops = c.chunks_exact.ensures in
    let answers = c.chunks_exact-2.ensures in
    let both = c.zip.ensures in
    let first = ap zip_first from.source ∙ both.first in
    let second = ap zip_second from.source ∙ both.second in
    rw (c.into_iter-i-iterator.ensures.into_iter_gives) (
      search rules,
      tt,
      from.count,
      ap chunks_exact_size first ∙ ops.size,
      none_taken 10 (ap chunks_exact_rest first ∙ ops.rest),
      ap chunks_exact_size second ∙ answers.size,
      none_taken 8 (ap chunks_exact_rest second ∙ answers.rest),
      none _,
    )

pub loop-i-preserved : goal.loop-i-preserved
loop-i-preserved c =
    let inv = c.loop-i.invariant in
    let step = c.in-Some.ensures.steps in
    let a = c.args in
    let n = length c.loop-i.yielded in
    let op = one_taken inv.4 step.0.0.1.0 (step.0.0.1.1 ∙ inv.3) in
    let answer = one_taken inv.6 step.0.1.1.0 (step.0.1.1.1 ∙ inv.5) in
    let number : c.in-Some.i ≡ n = step.1 ∙ inv.2 in
    rw (length-append c.loop-i.yielded _) (
      search rules,
      tt,
      step.2 ∙ ap (λ k. k + 1) inv.2,
      step.0.0.0 ∙ inv.3,
      op.1,
      step.0.1.0 ∙ inv.5,
      answer.1,
      wider (omega arith) (same (sym (op-more (length a.ops.now / 10) n a.ops.now a.answers.now (count_taken (omega arith) op.1))) (then inv.7 (rw (op.0, answer.0, number) at c.op_line.ensures))),
    )
