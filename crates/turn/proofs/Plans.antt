-- The numbers of a planned split.
use mathlib.Core.List.{List}
use Prim.Native.Nat.{ℕ, ◌+◌, ◌≤◌, ◌<◌}
use native.Mathlib.Omega.{arith}
use Rattle.spec.specs.declared.Op.{Op}
use Rattle.spec.specs.File.{Page}
use Rattle.spec.specs.Split.{split_count}
use Rattle.pieces.specs.Least.{least-le}
use Rattle.pieces.specs.Parts.{least-deep}
use Rattle.memory.specs.declared.Shape.{Shape}
use Rattle.memory.specs.Memory.{page_in}
use Rattle.turn.specs.Safe.{Planned}

pub split_most : (p : Page) (k : ℕ) → split_count p k ≤ 33
unfolding split_count
split_most p k = omega (arith, least-le p.records k)

module _ {sh : Shape} {op : Op} {w : List ℕ} {x : ℕ} (o : Planned sh op w x) where
  -- its last split makes a depth within the global one
  pub plan_end : (page_in sh.capacity w x).depth + split_count (page_in sh.capacity w x) op.call ≤ sh.depth
  unfolding split_count
  plan_end = omega (arith, o.within, least-deep o.splits)

  pub plan_deep : (page_in sh.capacity w x).depth < sh.depth
  plan_deep = omega (arith, o.within, least-deep o.splits)
