-- `rounds::rounds` meets its contract: rounds until one deals no turn, and then no later one does.
use mathlib.Core.Path.{◌≡◌, sym}
use native.Mathlib.Omega.{arith}
use Rattle.spec.specs.Deal.{max_dealt}
use Rattle.rounds.specs.OnTable.{dealing, round_on}
use Rattle.rounds.proofs.Rounding.{begun, nobody, grows, onward, ended}
use Rattle.rounds.proofs.rounds.Goals.{After-round-n}
use Rattle.rounds.proofs.rounds.Goals as goal

-- the round is one of the job's
dealt
    : (c : After-round-n)
    → dealing c.round-n.new.rows c.round-n.new.out c.round-n.new.work c.round-n.result
    ≡ round_on c.args.h c.args.job.now (dealing c.loop-n.rows c.loop-n.out c.loop-n.work c.loop-n.n)
dealt c = rw (c.headed-reader.ensures.0, c.headed-reader.ensures.1, c.new.ensures.0, c.new.ensures.1) at c.round-n.ensures

pub returns-then-h-eq0 : goal.returns-then-h-eq0
returns-then-h-eq0 c = sym (nobody c.args.h c.args.job.now max_dealt _ c.if-h-eq0.true)

pub headed-reader-requires : goal.headed-reader-requires
headed-reader-requires c = rw (c.new.ensures.0, c.new.ensures.1) ((c.requires 0).0 0 (omega arith)).heads

pub loop-n-init : goal.loop-n-init
loop-n-init c = let a = c.args in begun a.h a.job.now (dealing a.rows.now a.out.now a.work.now 0)

pub round-n-requires : goal.round-n-requires
round-n-requires c =
    rw (c.headed-reader.ensures.0, c.headed-reader.ensures.1, c.new.ensures.0, c.new.ensures.1, c.loop-n.invariant.here) (c.requires c.loop-n.invariant.rounds).0

pub loop-n-preserved : goal.loop-n-preserved
loop-n-preserved c =
    onward _ _ _ (λ n. (c.requires n).1) c.loop-n.invariant (dealt (goal.at.loop-n-preserved c).After-round-n) c.if-n-t.false

pub loop-n-smaller : goal.loop-n-smaller
loop-n-smaller c =
    let g = grows _ _ _ (λ n. (c.requires n).1) c.loop-n.invariant (dealt (goal.at.loop-n-smaller c).After-round-n) in
    omega (arith, g.0, g.1, c.if-n-t.false)

pub returns-then-n-t : goal.returns-then-n-t
returns-then-n-t c =
    ended _ _ _ (λ n. (c.requires n).1) c.loop-n.invariant (dealt (goal.at.returns-then-n-t c).After-round-n) c.if-n-t.true
