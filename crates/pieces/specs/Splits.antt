-- What the split of a page asks of the page and of the new record.
use Rattle.std.specs.Prelude.{◌≡◌, true, ℕ, ◌+◌, ◌≤◌, ◌<◌, length}
use Rattle.spec.specs.declared.Rec.{Rec}
use Rattle.spec.specs.Basics.{Each}
use Rattle.spec.specs.File.{Page, of_index}
use Rattle.spec.specs.Split.{least_shared}
use Rattle.spec.specs.Proper.{In}
use Rattle.pieces.specs.declared.Piece.{Piece}

-- the page is full, its calls and the new one begin with its pattern, and not all of its calls share 32 bits with the new one
pub record Splits (c : ℕ) (p : Page) (r : Rec) : Type 0 where
  pub deep : p.depth ≤ 32
  pub full : length p.records ≡ c
  pub home : In p r.call
  pub homed : Each (λ a. In p a.call) p.records
  pub apart : least_shared p.records r.call < 32

-- a page of capacity c has room for the piece
pub record Fits (c : ℕ) (p : Page) (q : Piece) : Type 0 where
  pub deep : q.depth ≤ 32
  pub spare : q.own ≡ true → length (of_index q.depth q.pattern p.records) < c

-- g splits are enough
abbrev pub Enough : ℕ → Page → Rec → Type 0
Enough g p r = least_shared p.records r.call < p.depth + g
