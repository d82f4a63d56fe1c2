use Rattle.std.specs.Prelude.{ℕ, ◌*◌, List, Option}
use Rattle.spec.specs.Check.{Fault}
use Rattle.spec.specs.SwitchLog.{Logged, logged_size, no_logged, switch_log}
use Rattle.spec.specs.Tariff.{bands_of, logged_fault}
use Rattle.laws.specs.Codec.Passed.{Passed}
use Rattle.tariff.proofs.records.wrong_logged.Given as goal

abbrev pub fault : List ℕ → ℕ → Logged → Option Fault
fault t i = logged_fault (bands_of t) (logged_size * i)

-- no record before record i is refused
abbrev pub invariant-loop-i : goal.invariant-loop-i
invariant-loop-i l = Passed (fault l.bands.tariff.now) (switch_log l.log) no_logged l.i
