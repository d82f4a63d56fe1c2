use native.Mathlib.Omega.{arith}
use Rattle.std.proofs.lemmas.Bool.Decides.{nat_tests}
use Rattle.spec.specs.Basics.{if}
use Rattle.spec.specs.Split.{digit}
use Rattle.result.specs.Marks.{begun_number}
use Rattle.result.proofs.begun.Goals.{in-0, in_default}
use Rattle.result.proofs.begun.Goals as goal

pub returns : goal.returns
unfolding begun_number digit if
returns c =
    elim c.match-matches.branch [
      | in-0 w ↦ rw w.matches-is (grind (arith, nat_tests, w.in-0.is))
      | in_default w ↦ rw w.matches-is (grind (arith, nat_tests, w.in_default))
    ]
