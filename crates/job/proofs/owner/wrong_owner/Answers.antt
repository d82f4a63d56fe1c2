use native.Mathlib.Omega.{arith}
use Rattle.spec.specs.Job.{entry_place}
use Rattle.job.proofs.Lowest.{lowest_same, lowest_or}
use Rattle.job.proofs.Foreign.{up_none, up_more, owner_told}
use Rattle.job.proofs.owner.wrong_owner.Goals as goal

pub loop-k-init : goal.loop-k-init
loop-k-init c = lowest_same _ _ _ _ (up_none c.args.pages.paged) c.first_stray-first.ensures

pub loop-k-preserved : goal.loop-k-preserved
loop-k-preserved c =
    rw c.lower-first.ensures
    (lowest_or _ _ _ _ _ _ (λ j l. up_more c.args.pages.paged c.loop-k.k j c.loop-k-test.true) c.loop-k.invariant c.first_foreign.ensures)

pub returns-in_err-first : goal.returns-in_err-first
returns-in_err-first c =
    rw c.from_residual.ensures (rw c.in_err-first.was at (owner_told c.args.pages.paged c.loop-k.k _ (omega arith) c.loop-k.invariant))

pub returns : goal.returns
unfolding entry_place
returns c = rw c.in_ok-first.was at (owner_told c.args.pages.paged c.loop-k.k _ (omega arith) c.loop-k.invariant)
