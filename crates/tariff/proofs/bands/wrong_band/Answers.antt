use Rattle.std.specs.Prelude.{ℕ, ◌≤◌, ◌<◌, ◌≡◌, List, length, Some}
use Rattle.std.proofs.Common.{arith, lt-ltb, le-ltb}
use Rattle.spec.specs.Basics.{when, or_else, among, first_of}
use Rattle.spec.specs.Tariff.{band_of, max_bands, bands_of, band_fault, wrong_band}
use Rattle.laws.specs.Codec.Tools.{or_else_end}
use Rattle.switchlog.specs.Parts.{reads-count}
use Rattle.tariff.proofs.Filled.{told_first}
use Rattle.tariff.proofs.bands.wrong_band.Goals as goal

-- more than 32 bands, or not
too_many : (t : List ℕ) → max_bands < length (bands_of t) → Some (length t) ≡ wrong_band t
unfolding wrong_band among or_else when
too_many t l = rw (lt-ltb max_bands (length (bands_of t)) l)

not-many : (t : List ℕ) → length (bands_of t) ≤ max_bands → wrong_band t ≡ first_of (band_fault (bands_of t)) 0 (bands_of t)
unfolding wrong_band among or_else when
not-many t l = rw (le-ltb max_bands (length (bands_of t)) l) (or_else_end _)

pub returns-then-bands-gt-MOST_BANDS : goal.returns-then-bands-gt-MOST_BANDS
returns-then-bands-gt-MOST_BANDS c = let n = reads-count band_of _ _ c.bands.ensures in told_first (too_many _ (omega arith))

pub returns : goal.returns
returns c = let n = reads-count band_of _ _ c.bands.ensures in rw (not-many c.args.tariff.now (omega arith)) c.first_bad.ensures
