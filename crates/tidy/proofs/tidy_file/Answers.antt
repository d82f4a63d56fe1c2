-- `tidy_file` meets its contract: 18, or what comes of the pages left.
use mathlib.Core.Path.{sym, ap, ◌∙◌}
use Rattle.spec.specs.Job.{Header as Counts}
use Rattle.wire.specs.Comes.{comes_refused, comes_by}
use Rattle.tidy.proofs.Outcomes.{by_ops, by_output}
use Rattle.tidy.proofs.tidy_file.Goals as goal

pub returns-then-file-ne0 : goal.returns-then-file-ne0
returns-then-file-ne0 c =
    rw c.at.ensures (comes_refused (by_ops _ _ _ (λ z. c.if-file-ne0.true (ap (λ (h : Counts). h.ops) c.args.file.given.heads.counts ∙ z))))

pub invariant_of-left : goal.invariant_of-left
invariant_of-left c = record { found = c.find-count.ensures.found }

pub returns : goal.returns
returns c =
    let none = sym (ap (λ (h : Counts). h.ops) c.args.file.given.heads.counts) ∙ c.if-file-ne0.false in
    comes_by (by_output _ _ _ none) c.try_write.ensures
