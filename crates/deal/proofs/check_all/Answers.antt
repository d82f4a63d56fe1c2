-- `check_all` answers with the first row that holds: the job's own, then turns present, then the lent lengths.
use mathlib.Core.Path.{◌≡◌, sym, ap, ◌∙◌}
use Rattle.std.proofs.lemmas.Result.{err_from_is_err_and}
use Rattle.spec.specs.Job.{Header as Counts}
use Rattle.spec.specs.Decode.{header_of}
use Rattle.spec.specs.Deal.{small_for_deal}
use Rattle.header.specs.Counts.{counts_of, Heads}
use Rattle.laws.specs.Codec.Answer.{no_fault, its_fault}
use Rattle.deal.proofs.Ends.{by_job, by_turns, by_lent}
use Rattle.deal.proofs.check_all.Goals.{In_ok-reader, After-small_for}
use Rattle.deal.proofs.check_all.Goals as goal

-- the header is the job's
head_is : (c : In_ok-reader) → counts_of c.in_ok-reader.reader.header ≡ header_of c.args.job.now
head_is c =
    let r = c.in_ok-reader in
    let h : Heads r.reader.header c.args.job.now = rw r.ensures.read at r.reader.heads in
    h.counts

turns_are : (c : In_ok-reader) → c.in_ok-reader.reader.header.turns ≡ (header_of c.args.job.now).turns
turns_are c = ap (λ (k : Counts). k.turns) (head_is c)

pub returns-in_err-reader-clause-fault : goal.returns-in_err-reader-clause-fault
returns-in_err-reader-clause-fault c =
    let p = err_from_is_err_and c.from_residual.result c.from_residual.ensures.1 in
    rw (p.1, p.2) (by_job _ _ _ (its_fault c.check.ensures.fault c.in_err-reader.was))

pub returns-then-h-ne0-clause-fault : goal.returns-then-h-ne0-clause-fault
returns-then-h-ne0-clause-fault c =
    rw c.at.ensures
    (by_turns _ _ (no_fault c.check.ensures.fault c.in_ok-reader.was)
    (λ z. c.if-h-ne0.true (turns_are (goal.at.returns-then-h-ne0-clause-fault c).In_ok-reader ∙ z)))

pub returns-in_err-refuses-clause-fault : goal.returns-in_err-refuses-clause-fault
unfolding small_for_deal
returns-in_err-refuses-clause-fault c =
    let p = err_from_is_err_and c.from_residual-in_err-refuses.result c.from_residual-in_err-refuses.ensures.1 in
    let at = (goal.at.returns-in_err-refuses-clause-fault c).In_ok-reader in
    rw (p.1, p.2)
    (by_lent _ _ _ _ (no_fault c.check.ensures.fault c.in_ok-reader.was) (sym (turns_are at) ∙ c.if-h-ne0.false)
    (c.small_for.ensures _ (head_is at))
    (its_fault c.refuses.ensures c.in_err-refuses.was))

pub returns-clause-fault : goal.returns-clause-fault
unfolding small_for_deal
returns-clause-fault c =
    let at = (goal.at.returns-clause-fault c).In_ok-reader in
    by_lent _ _ _ _ (no_fault c.check.ensures.fault c.in_ok-reader.was) (sym (turns_are at) ∙ c.if-h-ne0.false)
    (c.small_for.ensures _ (head_is at))
    (no_fault c.refuses.ensures c.in_ok-refuses.was)
