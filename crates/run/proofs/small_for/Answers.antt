use borrow.Author.Tests.{lt-ltb, le-ltb}
use Rattle.spec.specs.Basics.{when, or_else, among}
use Rattle.spec.specs.Check.{small_for}
use Rattle.run.proofs.small_for.Goals as goal

pub returns-then-lent-size : goal.returns-then-lent-size
unfolding small_for among when or_else
returns-then-lent-size c = λ b e. rw (lt-ltb _ _ c.if-lent-size.true)

pub returns-then-lent-h : goal.returns-then-lent-h
unfolding small_for among when or_else
returns-then-lent-h c = λ b e. rw (← e, le-ltb _ _ c.if-lent-size.false, lt-ltb _ _ c.if-lent-h.true)

pub returns-then-lent-lt-WORK_SIZE : goal.returns-then-lent-lt-WORK_SIZE
unfolding small_for among when or_else
returns-then-lent-lt-WORK_SIZE c =
    λ b e.
    rw (← e, le-ltb _ _ c.if-lent-size.false, le-ltb _ _ c.if-lent-h.false, lt-ltb _ _ c.if-lent-lt-WORK_SIZE.true)

pub returns : goal.returns
unfolding small_for among when or_else
returns c =
    λ b e.
    rw (← e, le-ltb _ _ c.if-lent-size.false, le-ltb _ _ c.if-lent-h.false, le-ltb _ _ c.if-lent-lt-WORK_SIZE.false)
