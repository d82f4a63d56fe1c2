-- The least of all is the least so far or the least among the records that are left.
use Rattle.std.proofs.Common.{◌≡◌, ◌-◌, ◌≤◌, min}
use Rattle.spec.specs.Split.{least_shared}
use Rattle.spec.specs.Decode.{page_of}
use Rattle.page.specs.View.{records_from}
use Rattle.pieces.proofs.least_shared.Given as goal

abbrev pub invariant-loop-i : goal.invariant-loop-i
invariant-loop-i l =
    (l.least ≤ 32) × (least_shared (page_of l.page).records l.call ≡ min l.least (least_shared (records_from l.page l.i (l.i-end - l.i)) l.call))
