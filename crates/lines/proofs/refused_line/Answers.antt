use Rattle.spec.specs.Bytes.{text}
use Rattle.spec.specs.Report.{refused_line}
use Rattle.text.specs.AddedLaws.{then}
use Rattle.lines.proofs.refused_line.Goals as goal

pub returns : goal.returns
unfolding text refused_line
returns c = then (then (then (then c.bytes.ensures c.decimal.ensures) c.bytes-2.ensures) c.decimal-2.ensures) c.bytes-3.ensures
