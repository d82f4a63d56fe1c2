use Rattle.spec.specs.Bytes.{text}
use Rattle.text.specs.AddedLaws.{then, same}
use Rattle.pageline.proofs.Laws.{record_said}
use Rattle.pageline.proofs.record_word.Goals as goal

pub returns : goal.returns
unfolding text
returns c = same (record_said c.args.«record».now _ _ c.u32_at.ensures c.u32_at-2.ensures) (then c.field.ensures c.field-2.ensures)
