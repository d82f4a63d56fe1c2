use Rattle.std.proofs.Common.{rules, arith, sym, ap, ◌∙◌, ◌≡◌, ◌+◌, length, length-append}
use Rattle.spec.specs.Bytes.{parts}
use Rattle.spec.specs.Report.{page_lines}
use Rattle.text.specs.AddedLaws.{none, then, same, wider}
use Rattle.text.specs.Sections.{none_taken, one_taken, count_taken}
use Rattle.report.proofs.Laws.{page-more}
use Rattle.report.proofs.sections.page_lines.Goals as goal

pub loop-i-init : goal.loop-i-init
unfolding page_lines parts
loop-i-init c =
    let cut = c.chunks_exact.ensures in
    let from = c.enumerate-i-items.ensures in
    (search rules, tt, rw (c.into_iter-i-iterator.ensures.into_iter_gives) from.count, rw (c.into_iter-i-iterator.ensures.into_iter_gives, from.source) cut.size, none_taken c.args.size (rw (c.into_iter-i-iterator.ensures.into_iter_gives, from.source) cut.rest), none _)

pub page_line-requires-clause-records : goal.page_line-requires-clause-records
page_line-requires-clause-records c =
    let inv = c.loop-i.invariant in
    let step = c.in-Some.ensures.steps in
    let size = step.0.1.1 ∙ inv.3 in
    let taken = one_taken inv.4 step.0.1.0 size in
    let fits = rw (← taken.0) at (c.requires.counts.each (length c.loop-i.yielded) (count_taken (omega arith) taken.1)) in
    omega (arith, fits, size)

pub page_line-requires-clause-few : goal.page_line-requires-clause-few
page_line-requires-clause-few c =
    let inv = c.loop-i.invariant in
    let step = c.in-Some.ensures.steps in
    let taken = one_taken inv.4 step.0.1.0 (step.0.1.1 ∙ inv.3) in
    let fits = rw (← taken.0) at (c.requires.counts.each (length c.loop-i.yielded) (count_taken (omega arith) taken.1)) in
    omega (arith, fits)

pub loop-i-preserved : goal.loop-i-preserved
loop-i-preserved c =
    let inv = c.loop-i.invariant in
    let step = c.in-Some.ensures.steps in
    let a = c.args in
    let n = length c.loop-i.yielded in
    let taken = one_taken inv.4 step.0.1.0 (step.0.1.1 ∙ inv.3) in
    let number : c.in-Some.i + 1 ≡ n + 1 = ap (λ k. k + 1) (step.1 ∙ inv.2) in
    rw (length-append c.loop-i.yielded _) (
      search rules,
      tt,
      step.2 ∙ ap (λ k. k + 1) inv.2,
      step.0.0 ∙ inv.3,
      taken.1,
      wider (omega arith) (same (sym (page-more n a.size a.pages.now)) (then inv.5 (rw (taken.0, number) at c.page_line.ensures))),
    )
