-- i records are not higher, and the place is i behind its place among those that are left.
use Rattle.std.proofs.Common.{◌≡◌, ◌+◌, ◌-◌}
use Rattle.page.specs.View.{records_from}
use Rattle.page.specs.Put.{place_in}
use Rattle.page.proofs.place_of.Given as goal

abbrev pub invariant-loop-i : goal.invariant-loop-i
invariant-loop-i l = place_in (records_from l.page 0 l.n) l.call ≡ l.i + place_in (records_from l.page l.i (l.n - l.i)) l.call
