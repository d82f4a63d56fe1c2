-- Bytes written front to back: what a writer that answers the place behind what it wrote has done.
use Rattle.std.specs.Prelude.{◌≡◌, List, ℕ, ◌+◌, ◌≤◌, length}
use Rattle.wire.specs.Over.{over}

-- s became t by x written at a place, r is the place behind it, and x has at most k bytes
pub record Wrote (k : ℕ) (s : List ℕ) (at : ℕ) (x t : List ℕ) (r : ℕ) : Type 0 where
  pub bytes : t ≡ over s at x
  pub stop : r ≡ at + length x
  pub near : r ≤ at + k
