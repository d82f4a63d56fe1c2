use Rattle.std.proofs.Common.{arith}
use Rattle.text.specs.AddedLaws.{same, wider}
use Rattle.text.specs.Sections.{count_lent}
use Rattle.report.proofs.Reading.{answers-read}
use Rattle.report.proofs.sections.answer_lines.Goals as goal

pub returns : goal.returns
returns c =
    let m = c.u16_at-m in
    let h = c.requires.1 in
    let a = c.args in
    let q = c.u32_at-answers in
    wider (omega (arith, count_lent a.res.now q.result 8 m.result (omega arith) (omega arith), h.few, h.count, m.ensures.0))
    (same (answers-read a.job.now a.res.now _ _ _ m.ensures.0 c.u32_at-ops.ensures q.ensures h) c.op_lines.ensures)
