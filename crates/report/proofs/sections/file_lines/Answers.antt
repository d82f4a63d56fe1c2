use Rattle.std.proofs.Common.{arith}
use Rattle.text.specs.AddedLaws.{same, wider}
use Rattle.report.proofs.Reading.{file-read, file-count, file-counts}
use Rattle.report.proofs.sections.file_lines.Goals as goal

pub page_lines-requires-clause-counts : goal.page_lines-requires-clause-counts
page_lines-requires-clause-counts c =
    file-counts c.args.file.now _ _ _ c.u8_at.ensures.0 c.u16_at-used.ensures.0 c.u32_at-table.ensures c.requires.1

pub returns : goal.returns
returns c =
    let n = c.u16_at-used.ensures.0 in
    let t = c.u32_at-table.ensures in
    let h = c.requires.1 in
    let b = c.args.file.now in
    wider (omega (arith, file-count b _ _ _ c.u8_at.ensures.0 n t h, h.few, n)) (same (file-read b _ _ _ c.u8_at.ensures.0 n t h) c.page_lines.ensures)
