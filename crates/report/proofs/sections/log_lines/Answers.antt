use Rattle.std.proofs.Common.{arith}
use Rattle.text.specs.AddedLaws.{same, wider}
use Rattle.text.specs.Sections.{count_lent}
use Rattle.report.proofs.Reading.{log-read}
use Rattle.report.proofs.sections.log_lines.Goals as goal

pub returns : goal.returns
returns c =
    let n = c.u16_at-n in
    let q = c.u32_at-log in
    let h = c.requires.1 in
    let r = c.args.res.now in
    wider (omega (arith, count_lent r q.result 4 n.result (omega arith) (omega arith), h.few, n.ensures.0))
    (same (log-read r _ _ n.ensures.0 q.ensures h) c.at_lines.ensures)
