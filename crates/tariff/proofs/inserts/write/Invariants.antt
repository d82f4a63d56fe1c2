use Rattle.tariff.proofs.Bytes.{Put}
use Rattle.tariff.proofs.inserts.write.Given as goal

-- the inserts for the records before record i stand in the output
abbrev pub invariant-loop-i : goal.invariant-loop-i
invariant-loop-i l = Put l.bands.tariff.now l.log l.initial.out l.i l.out
