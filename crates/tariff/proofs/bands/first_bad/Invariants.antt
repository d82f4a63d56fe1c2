use Rattle.std.specs.Prelude.{◌≡◌, length, take}
use Rattle.spec.specs.Tariff.{bands_of, no_band, bad_band}
use Rattle.laws.specs.Codec.Passed.{Clear}
use Rattle.tariff.specs.Index.{Indexed}
use Rattle.tariff.proofs.bands.first_bad.Given as goal

-- no band before band i is bad, and all of them are in the index
abbrev pub invariant-loop-i : goal.invariant-loop-i
invariant-loop-i l = Clear (bad_band (bands_of l.tariff)) (bands_of l.tariff) no_band l.i × Indexed (take l.i (bands_of l.tariff)) l.numbers × (length l.numbers ≡ 256)
