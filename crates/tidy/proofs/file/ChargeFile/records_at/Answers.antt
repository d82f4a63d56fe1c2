-- `ChargeFile::records_at` meets its contract: a page's records count at its first entry alone.
use native.Mathlib.Omega.{arith}
use Rattle.tidy.proofs.Known.{shown_depth, at_first, at_later}
use Rattle.tidy.proofs.file.ChargeFile.records_at.Goals as goal

pub run-requires : goal.run-requires
run-requires c = omega (arith, c.page_on-page.ensures.deep, c.depth.ensures.0, shown_depth c.page_on-page.result.now)

pub returns-then-pattern-run-clause-is : goal.returns-then-pattern-run-clause-is
returns-then-pattern-run-clause-is c =
    (at_first c.args.self.now.given _ c.page_on-page.ensures _ _ c.pattern.ensures.0 (rw c.depth.ensures.0 at c.run.ensures.is) _ c.count.ensures.0 c.if-pattern-run.true).0

pub returns-else-pattern-run-clause-is : goal.returns-else-pattern-run-clause-is
returns-else-pattern-run-clause-is c =
    at_later c.args.self.now.given _ c.page_on-page.ensures _ _ c.pattern.ensures.0 (rw c.depth.ensures.0 at c.run.ensures.is) c.if-pattern-run.false
