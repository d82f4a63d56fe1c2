use mathlib.Core.Path.{◌∙◌}
use borrow.Author.Tests.{lt-ltb, le-ltb}
use Rattle.spec.specs.Basics.{if}
use Rattle.spec.specs.Check.{page_fault}
use Rattle.job.proofs.Refused.{last_row}
use Rattle.job.proofs.table.page_fault.Goals as goal

pub returns-then-x-reader : goal.returns-then-x-reader
unfolding page_fault if
returns-then-x-reader c =
    rw (← c.args.reader.heads.counts, le-ltb _ _ c.if-x-reader.true, ← c.page_place-place.ensures.0)
    (rw (c.page-page.ensures.0, ← c.args.reader.heads.counts) at c.used_page_fault.ensures)

pub returns-else-x-reader : goal.returns-else-x-reader
unfolding page_fault if
returns-else-x-reader c =
    rw (← c.args.reader.heads.counts, lt-ltb _ _ c.if-x-reader.false, ← c.page_place-place.ensures.0)
    (rw (c.not_zero.ensures, c.page-page.ensures.0, ← c.args.reader.heads.counts) at c.refuses.ensures ∙ last_row _ _)
