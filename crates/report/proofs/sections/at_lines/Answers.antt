use Rattle.std.proofs.Common.{arith, sym, ◌∙◌, length, length-append}
use Rattle.spec.specs.Basics.{each}
use Rattle.spec.specs.Bytes.{parts}
use Rattle.spec.specs.Result.{line_of}
use Rattle.spec.specs.Report.{at_line}
use Rattle.text.specs.AddedLaws.{none, then, same, wider}
use Rattle.text.specs.Sections.{none_taken, one_taken, each_more}
use Rattle.report.proofs.sections.at_lines.Goals as goal

pub loop-line-init : goal.loop-line-init
unfolding each parts
loop-line-init c =
    let cut = c.chunks_exact-line-items.ensures in
    rw (c.into_iter-line-iterator.ensures.into_iter_gives) (omega (arith, cut.size), tt, cut.size, none_taken 4 cut.rest, none _)

pub loop-line-preserved : goal.loop-line-preserved
loop-line-preserved c =
    let inv = c.loop-line.invariant in
    let step = c.in-Some.ensures.steps in
    let s = c.args.log.now in
    let n = length c.loop-line.yielded in
    let taken = one_taken inv.3 step.1.0 (step.1.1 ∙ inv.2) in
    rw (length-append c.loop-line.yielded _) (
      omega arith,
      tt,
      step.0 ∙ inv.2,
      taken.1,
      wider (omega arith) (same (sym (each_more at_line line_of n 4 s)) (then inv.4 (rw taken.0 at c.at_line.ensures))),
    )
