-- The pages that the splits for an insert leave, each by what its calls begin with: the half of a split that the call is not in is done with, and
-- the half that it is in is split again, until the call's own page has room.
use Rattle.std.specs.Prelude.{ℕ, zero, suc, ◌+◌, ◌*◌, Bool, true, false, List, [], ◌∷◌}
use Rattle.spec.specs.declared.Rec.{Rec}
use Rattle.spec.specs.Basics.{if}
use Rattle.spec.specs.Key.{index, bit}
use Rattle.spec.specs.File.{Page, put_in, of_index}
use Rattle.spec.specs.Split.{digit}
use Rattle.pieces.specs.declared.Piece.{Piece}

-- a split at depth d: the half whose calls begin as the call does, and then have v
unfoldable pub side_piece : Bool → ℕ → ℕ → Piece
side_piece v d call = record { depth = suc d; pattern = 2 * index d call + digit v; own = false }

-- the call's own page, of depth d
unfoldable pub own_piece : ℕ → ℕ → Piece
own_piece d call = record { depth = d; pattern = index d call; own = true }

-- what is left in the page that takes the call at depth d, when n splits are still to come: "the split page keeps bit 0", so the call stays in it up to its first bit 1
unfoldable pub kept_piece : ℕ → ℕ → ℕ → Piece
kept_piece zero d call = own_piece d call
kept_piece (suc n) d call = if (bit d call) (side_piece false d call) (kept_piece n (suc d) call)

-- the new page of the split at depth d, when n more are still to come: "a new page gets bit 1"
unfoldable pub new_piece : ℕ → ℕ → ℕ → Piece
new_piece n d call = if (bit d call) (kept_piece n (suc d) call) (side_piece true d call)

-- the new pages of n splits, from depth d on, in their order
unfoldable pub new_pieces : ℕ → ℕ → ℕ → List Piece
new_pieces zero d call = []
new_pieces (suc n) d call = new_piece n d call ∷ new_pieces n (suc d) call

-- the page that a piece is, of page p's records and the new record
unfoldable pub cut : Page → Rec → Piece → Page
cut p r q =
    record {
      depth = q.depth;
      pattern = q.pattern;
      records = let rs = of_index q.depth q.pattern p.records in if q.own (put_in rs r) rs;
    }
