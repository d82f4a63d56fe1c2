-- Of the first j records those that stay stand at the front; a record not read yet is as it was.
use Rattle.std.proofs.Common.{◌≡◌, ◌≤◌, Bool, length}
use Rattle.spec.specs.declared.Rec.{Rec}
use Rattle.page.specs.Keep.{Tells, Kept}
use Rattle.page.proofs.keep.Given as goal

abbrev pub invariant-loop-j : goal.invariant-loop-j
invariant-loop-j g l =
    (l.kept ≤ l.j)
    × (length l.page ≡ length l.initial.page)
    × ((f : Rec → Bool) → Tells (goal.F-post g l.stays) f → Kept f l.initial.page l.page l.kept l.j)
