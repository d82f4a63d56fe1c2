-- The index of a tariff's codes.
use Rattle.std.specs.Prelude.{ℕ, ◌<◌, ◌≡◌, List, get_or, eqb, Option, None}
use Rattle.spec.specs.Basics.{when, first_of}
use Rattle.spec.specs.Tariff.{Band}

-- the number of the band that is taken for this code, if one has it
unfoldable pub number_for : List Band → ℕ → Option ℕ
number_for bands code = first_of (λ i (b : Band). when (eqb b.code code) i) 0 bands

-- s is an index of these bands: it has the number for each code
abbrev pub Indexed : List Band → List (Option ℕ) → Type 0
Indexed bands s = (code : ℕ) → code < 256 → get_or s code None ≡ number_for bands code
