-- What rows 12, 6 and 13 leave of a page's bytes, for row 8.
use Rattle.std.specs.Prelude.{ℕ, ◌≤◌, List, length}
use Rattle.spec.specs.Bytes.{byte}
use Rattle.spec.specs.Job.{max_depth, max_capacity, page_size}

-- depth and count within their limits, and room for the records
pub record Small (p : List ℕ) : Type 0 where
  pub deep : byte p 0 ≤ max_depth
  pub count : byte p 1 ≤ max_capacity
  pub room : page_size (byte p 1) ≤ length p
