use borrow.Author.Tests.{lt-ltb, le-ltb}
use Rattle.spec.specs.Check.{outside}
use Rattle.job.proofs.head.is_outside.Goals as goal

pub returns-then-n-least : goal.returns-then-n-least
unfolding outside
returns-then-n-least c = rw (lt-ltb _ _ c.if-n-least.true)

pub returns-else-n-least : goal.returns-else-n-least
unfolding outside
returns-else-n-least c = rw (le-ltb _ _ c.if-n-least.false)
