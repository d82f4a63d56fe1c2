use Rattle.std.specs.Option.{unwrap_or}
use Rattle.result.specs.FinishLaws.{result_header_lem}
use Rattle.result.proofs.write_header.Goals as goal

pub returns : goal.returns
returns c =
    λ r h.
    let a = c.args in
    result_header_lem a.res.now r a.m a.lines a.under (unwrap_or a.file 0) a.total
    c.put_four_u16.ensures
    (rw c.unwrap_or.ensures at c.put_four_u32.ensures)
    h
