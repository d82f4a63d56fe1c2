-- The loop that keeps some of a page's records in place: which they are, and what it leaves.
use Rattle.std.specs.Prelude.{◌≡◌, Bool, List, ℕ, length}
use Rattle.spec.specs.declared.Rec.{Rec}
use Rattle.spec.specs.Basics.{each, filter}
use Rattle.spec.specs.Encode.{record_bytes}
use Rattle.wire.specs.Over.{over}
use Rattle.page.specs.View.{records_from}

-- what is told of a record is f of it
abbrev pub Tells : (Rec → Bool → Type 0) → (Rec → Bool) → Type 0
Tells told f = (r : Rec) (b : Bool) → told r b → b ≡ f r

-- of the first j records of s those that pass a test, m of them, stand at the front of t; behind them t is s
pub record Kept (f : Rec → Bool) (s t : List ℕ) (m j : ℕ) : Type 0 where
  pub many : length (filter f (records_from s 0 j)) ≡ m
  pub bytes : t ≡ over s 4 (each record_bytes (filter f (records_from s 0 j)))
