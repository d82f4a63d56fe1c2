-- What closing a page does to its bytes, for a proof of the page functions: the image itself is spec's `page_bytes`.
use Rattle.std.specs.Prelude.{ℕ, ◌-◌, List, ◌∷◌, length, replicate}
use Rattle.spec.specs.Bytes.{two}
use Rattle.spec.specs.Job.{page_size}
use Rattle.wire.specs.Over.{over}

-- what lies behind n records zero, and the head written
unfoldable pub closed : List ℕ → ℕ → ℕ → ℕ → List ℕ
closed s d n pattern = over (over s (page_size n) (replicate (length s - page_size n) 0)) 0 (d ∷ n ∷ two pattern)
