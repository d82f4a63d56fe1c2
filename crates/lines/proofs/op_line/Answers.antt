use Rattle.spec.specs.Bytes.{byte, text}
use Rattle.std.proofs.Common.{arith}
use Rattle.text.specs.AddedLaws.{then, same, wider}
use Rattle.lines.proofs.Laws.{op_said}
use Rattle.lines.proofs.op_line.Goals as goal

pub returns : goal.returns
unfolding text byte
returns c =
    let a = c.args in
    let kind = c.kind_word.ensures in
    let code = c.code_word.ensures in
    same (op_said a.i a.op.now a.answer.now _ _ _ _ _ kind.word c.u32_at.ensures code.word c.u32_at-2.ensures c.u16_at.ensures.0)
    (wider (omega (arith, kind.short, code.short))
    (then
    (then
    (then
    (then (then (then (then (then c.field.ensures c.bytes.ensures) c.bytes-2.ensures) c.field-2.ensures) c.bytes-3.ensures) c.bytes-4.ensures)
    c.field-3.ensures)
    c.field-4.ensures)
    c.bytes-5.ensures))
