use Rattle.spec.specs.Check.{short}
use Rattle.job.proofs.Refused.{then-when}
use Rattle.job.proofs.head.short.Goals as goal

pub returns : goal.returns
unfolding short
returns c = rw (c.then_some.ensures, then-when)
