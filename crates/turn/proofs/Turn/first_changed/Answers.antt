use mathlib.Core.Path.{◌∙◌}
use native.Mathlib.Omega.{arith}
use Rattle.turn.proofs.Plans.{plan_end}
use Rattle.turn.proofs.Pieces.{left_piece}
use Rattle.turn.proofs.Turn.first_changed.Goals as goal

pub old_piece-q-requires : goal.old_piece-q-requires
old_piece-q-requires c = omega (arith, plan_end c.requires.1, c.requires.2, c.page_depth-d.ensures.0)

pub behind-requires : goal.behind-requires
behind-requires c =
    let left = left_piece c.requires.1 c.requires.0.depth c.requires.2 c.page_depth-d.ensures.0 c.old_piece-q.ensures in
    (left.depth, c.requires.0.depth, omega (arith, left.pattern))

pub overflow_cast-result : goal.overflow_cast-result
overflow_cast-result c =
    let left = left_piece c.requires.1 c.requires.0.depth c.requires.2 c.page_depth-d.ensures.0 c.old_piece-q.ensures in
    omega (arith, left.ends, c.behind.ensures)

pub returns : goal.returns
returns c =
    let left = left_piece c.requires.1 c.requires.0.depth c.requires.2 c.page_depth-d.ensures.0 c.old_piece-q.ensures in
    c.behind.ensures ∙ left.first
