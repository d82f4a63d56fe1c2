-- A depth that may be wanted of a file: exactly one that refusal 19 does not refuse (`Bytes.wanted_said`).
use Rattle.std.specs.Prelude.{ℕ, ◌≤◌}
use Rattle.spec.specs.Basics.{Each}
use Rattle.spec.specs.File.{File}
use Rattle.spec.specs.Job.{max_depth}
use Rattle.spec.specs.Tidy.{pages_left}

-- at most 8, and no page left is deeper
pub record Wanted (d : ℕ) (f : File) : Type 0 where
  pub most : d ≤ max_depth
  pub least : Each (λ q. q.depth ≤ d) (pages_left f)
