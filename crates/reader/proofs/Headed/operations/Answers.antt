use native.Mathlib.Omega.{arith}
use Rattle.reader.specs.PartLaws.{in_order}
use Rattle.reader.proofs.Headed.operations.Goals as goal

pub slice_bounds-result-count : goal.slice_bounds-result-count
slice_bounds-result-count c =
    let o = in_order c.args.self.heads in omega (arith, o.0, o.1, o.2, o.3, o.4, c.ops_offset-at.ensures.0, c.turns_offset-end.ensures.0)

pub slice_bounds-result-start : goal.slice_bounds-result-start
slice_bounds-result-start c =
    let o = in_order c.args.self.heads in omega (arith, o.0, o.1, o.2, o.3, o.4, c.ops_offset-at.ensures.0, c.turns_offset-end.ensures.0)

pub slice_bounds-result-end : goal.slice_bounds-result-end
slice_bounds-result-end c =
    let o = in_order c.args.self.heads in omega (arith, o.0, o.1, o.2, o.3, o.4, c.ops_offset-at.ensures.0, c.turns_offset-end.ensures.0)
