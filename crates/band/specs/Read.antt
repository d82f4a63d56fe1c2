-- A band as the code reads it, and as the definitions have it; and the classes in numbers.
use Rattle.std.specs.Prelude.{ℕ}
use Rattle.spec.specs.Tariff.{Band as Row, cheap, standard, dear}
use Rattle.band.specs.declared.Band.{Band}
use Rattle.band.specs.declared.Class.{Class}
use Rattle.band.specs.declared.Class.TheVariants.{Cheap, Standard, Dear}

abbrev pub band_in : Band → Row
band_in b = record { code = b.code; free = b.free; unit = b.unit; fee = b.fee; prices = b.prices }

-- the class's place among a band's prices
abbrev pub class_number : Class → ℕ
class_number Cheap = cheap
class_number Standard = standard
class_number Dear = dear
