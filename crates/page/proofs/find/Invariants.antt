-- `page::find` meets its contract: the answer is the answer among the records that are left.
use mathlib.Core.Path.{◌≡◌}
use Prim.Native.Nat.{◌-◌}
use Rattle.spec.specs.File.{look_in}
use Rattle.spec.specs.Decode.{page_of}
use Rattle.page.specs.View.{records_from}
use Rattle.page.proofs.find.Given as goal

abbrev pub invariant-loop-i : goal.invariant-loop-i
invariant-loop-i l = look_in (page_of l.page).records l.call ≡ look_in (records_from l.page l.i (l.i-end - l.i)) l.call
