use mathlib.Core.Path.{◌∙◌}
use native.Mathlib.Omega.{arith}
use Rattle.std.proofs.lemmas.Result.{err_from_is_err_and}
use Rattle.spec.specs.Check.{wrong_pattern, row, over_count, not_cleared}
use Rattle.std.proofs.Common.{length-drop}
use Rattle.job.proofs.Zeros.{rest}
use Rattle.job.proofs.Refused.{then-when, row_hit, row_next, not-above, last_row}
use Rattle.job.proofs.table.used_page_fault.Goals as goal

pub returns-in_err-refuses : goal.returns-in_err-refuses
returns-in_err-refuses c =
    let p = err_from_is_err_and c.from_residual.result c.from_residual.ensures.1 in
    rw (p.1, p.2) (row_hit 12 (wrong_pattern _ _) _ _ c.wrong_pattern.ensures c.in_err-refuses.ensures)

pub returns-in_err-refuses-2 : goal.returns-in_err-refuses-2
unfolding over_count
returns-in_err-refuses-2 c =
    let p = err_from_is_err_and c.from_residual-in_err-refuses-2.result c.from_residual-in_err-refuses-2.ensures.1 in
    rw (p.1, p.2)
    (row_next 12 (wrong_pattern _ _) _ _ c.wrong_pattern.ensures c.in_ok-refuses.ensures
    (row_hit 6 (over_count _ _) _ _ (rw (c.then_some.ensures, then-when, c.count-count.ensures.1)) c.in_err-refuses-2.ensures))

pub slice_bounds-not_zero-count : goal.slice_bounds-not_zero-count
slice_bounds-not_zero-count c = omega (arith, not-above _ _ c.then_some.ensures c.in_ok-refuses-2.ensures)

pub slice_bounds-not_zero-start : goal.slice_bounds-not_zero-start
slice_bounds-not_zero-start c = omega (arith, not-above _ _ c.then_some.ensures c.in_ok-refuses-2.ensures)

pub not_zero-requires : goal.not_zero-requires
not_zero-requires c =
    rw (rest, length-drop) (omega (arith, not-above _ _ c.then_some.ensures c.in_ok-refuses-2.ensures))

pub returns : goal.returns
unfolding over_count not_cleared
returns c =
    row_next 12 (wrong_pattern _ _) _ _ c.wrong_pattern.ensures c.in_ok-refuses.ensures
    (row_next 6 (over_count _ _) _ _ (rw (c.then_some.ensures, then-when, c.count-count.ensures.1)) c.in_ok-refuses-2.ensures
    (c.refuses-3.ensures ∙ rw (c.not_zero.ensures, rest, c.count-count.ensures.1) (last_row (row 13 (not_cleared _)) _)))
