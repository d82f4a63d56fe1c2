-- What is handed over as plain numbers.
use Rattle.std.specs.Prelude.{ℕ, ◌+◌, ◌*◌, unwrap_or}
use Rattle.spec.specs.declared.Rec.{Rec}
use Rattle.spec.specs.declared.Found.{Found}

-- a charge, or 2^32 where the call is not there; and 2^33 times the number of the page
abbrev pub found_number : Found → ℕ
found_number o = unwrap_or o.charge 4294967296 + 8589934592 * o.page

abbrev pub rec_for : ℕ → ℕ → Rec
rec_for call charge = record { call = call; charge = charge }
