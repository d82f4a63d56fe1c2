-- The header of a charge file, and its length.
use Rattle.std.specs.Prelude.{ℕ, ◌+◌, ◌*◌, ◌^◌}
use Rattle.spec.specs.Job.{Header, page_size}

-- the header of a charge file: no operations and no turns
abbrev pub file_header : ℕ → ℕ → ℕ → ℕ → Header
file_header g c limit used = record { g = g; c = c; limit = limit; used = used; ops = 0; turns = 0 }

-- its length
abbrev pub file_size : ℕ → ℕ → ℕ → ℕ
file_size g c limit = 32 + 2 * 2 ^ g + page_size c * limit
