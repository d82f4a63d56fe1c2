use Rattle.laws.specs.Tools.{if-true, if-false}
use borrow.Author.Tests.{eq-eqb, ne_eqb}
use Rattle.result.specs.Marks.{mark_number, mark_place, with_mark}
use Rattle.result.proofs.put_mark.Goals.{then-row-eq0, else-row-eq0}
use Rattle.result.proofs.put_mark.Goals as goal

pub returns : goal.returns
unfolding with_mark mark_number mark_place
returns c =
    elim c.if-row-eq0.branch [
      | then-row-eq0 w ↦ rw (if-true _ _ (eq-eqb _ _ w.if-row-eq0.true), ← w.mark-is) c.put_u16.ensures
      | else-row-eq0 w ↦ rw (if-false _ _ (ne_eqb _ _ w.if-row-eq0.false), ← w.mark-is) c.put_u16.ensures
    ]
