use Rattle.spec.specs.Bytes.{text}
use Rattle.text.specs.AddedLaws.{then, same}
use Rattle.lines.proofs.Laws.{at_said}
use Rattle.lines.proofs.at_line.Goals as goal

pub returns : goal.returns
unfolding text
returns c =
    same (at_said c.args.line.now _ _ c.u16_at.ensures.0 c.u16_at-2.ensures.0)
    (then (then c.field.ensures c.field-2.ensures) c.bytes.ensures)
