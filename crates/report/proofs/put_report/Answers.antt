use Rattle.std.proofs.Common.{arith}
use Rattle.text.specs.AddedLaws.{then, same, wider}
use Rattle.report.proofs.Reading.{report-read, report-none}
use Rattle.report.proofs.put_report.Goals as goal

pub file_lines-requires : goal.file_lines-requires
file_lines-requires c = (omega arith, rw (c.in-Some.is) at c.charge_file.ensures.sound)

pub returns-in-Some : goal.returns-in-Some
returns-in-Some c =
    let file = rw (c.in-Some.is) at c.charge_file.ensures.file in
    wider (omega arith)
    (same (report-read c.args.job.now c.args.res.now _ file)
    (then (then (then c.job_line.ensures c.answer_lines.ensures) c.log_lines.ensures) c.file_lines.ensures))

pub returns-in_default : goal.returns-in_default
returns-in_default c =
    wider (omega arith)
    (same (report-none c.args.job.now c.args.res.now (rw (c.in_default.is) at c.charge_file.ensures.file))
    (then (then c.job_line.ensures c.answer_lines.ensures) c.log_lines.ensures))
