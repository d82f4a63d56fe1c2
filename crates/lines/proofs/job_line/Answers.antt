use Rattle.spec.specs.Bytes.{text}
use Rattle.text.specs.AddedLaws.{then, same}
use Rattle.lines.proofs.Laws.{job_said}
use Rattle.lines.proofs.job_line.Goals as goal

pub returns : goal.returns
unfolding text
returns c =
    same (job_said c.args.job.now _ _ _ _ _ c.u8_at.ensures.0 c.u8_at-2.ensures.0 c.u16_at.ensures.0 c.u16_at-2.ensures.0 c.u16_at-3.ensures.0)
    (then (then (then (then (then c.field.ensures c.field-2.ensures) c.field-3.ensures) c.field-4.ensures) c.field-5.ensures) c.bytes.ensures)
