use Rattle.std.proofs.Common.{arith}
use Rattle.spec.specs.Bytes.{byte, text}
use Rattle.text.specs.AddedLaws.{then, same, wider}
use Rattle.pageline.proofs.Laws.{page_said}
use Rattle.pageline.proofs.page_line.Goals as goal

pub returns : goal.returns
unfolding text byte
returns c =
    wider (omega arith)
    (same (page_said c.args.x c.args.page.now _ _ _ c.u8_at.ensures.0 c.u16_at.ensures.0 c.u8_at-2.ensures.0 (omega arith))
    (then (then (then (then (then c.field.ensures c.field-2.ensures) c.field-3.ensures) c.bytes.ensures) c.record_words.ensures) c.bytes-2.ensures))
