use Rattle.spec.specs.Check.{wrong_version}
use Rattle.job.proofs.Refused.{then-when}
use Rattle.job.proofs.head.wrong_version.Goals as goal

pub returns : goal.returns
unfolding wrong_version
returns c = rw (c.then_some.ensures, then-when, c.u16_at.ensures.0)
