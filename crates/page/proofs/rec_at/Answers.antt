-- Two numbers.
use Rattle.page.specs.View.{record_read}
use Rattle.page.proofs.rec_at.Goals as goal

pub returns : goal.returns
returns c =
    let a = c.args in
    rw (record_read a.page.now a.i, ← c.u32_at.ensures, ← c.u32_at-2.ensures)
