-- The first record has none before it.
use native.Mathlib.Omega.{arith}
use borrow.Author.Tests.{lt-ltb}
use Rattle.spec.specs.Check.{not_above}
use Rattle.job.proofs.records.Records.not_above.Goals as goal

pub returns-then-i-ne0 : goal.returns-then-i-ne0
unfolding not_above
returns-then-i-ne0 c =
    let i = c.args.i in
    rw (lt-ltb 0 i (omega arith), ← c.call_at-then-i-ne0.ensures, ← c.call_at.ensures)

pub returns-else-i-ne0 : goal.returns-else-i-ne0
unfolding not_above
returns-else-i-ne0 c = rw c.if-i-ne0.false
