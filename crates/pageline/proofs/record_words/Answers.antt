use Rattle.std.proofs.Common.{arith, sym, ◌∙◌, length, length-append}
use Rattle.spec.specs.Basics.{each}
use Rattle.spec.specs.Bytes.{parts}
use Rattle.spec.specs.Decode.{record_of}
use Rattle.spec.specs.Report.{record_word}
use Rattle.text.specs.AddedLaws.{none, then, same, wider}
use Rattle.text.specs.Sections.{none_taken, one_taken, each_more}
use Rattle.pageline.proofs.record_words.Goals as goal

pub loop-record-init : goal.loop-record-init
unfolding each parts
loop-record-init c =
    let cut = c.chunks_exact-record-items.ensures in
    rw (c.into_iter-record-iterator.ensures.into_iter_gives) (omega (arith, cut.size), tt, cut.size, none_taken 8 cut.rest, none _)

pub loop-record-preserved : goal.loop-record-preserved
loop-record-preserved c =
    let inv = c.loop-record.invariant in
    let step = c.in-Some.ensures.steps in
    let s = c.args.records.now in
    let n = length c.loop-record.yielded in
    let taken = one_taken inv.3 step.1.0 (step.1.1 ∙ inv.2) in
    rw (length-append c.loop-record.yielded _) (
      omega arith,
      tt,
      step.0 ∙ inv.2,
      taken.1,
      wider (omega arith) (same (sym (each_more record_word record_of n 8 s)) (then inv.4 (rw taken.0 at c.record_word.ensures))),
    )
