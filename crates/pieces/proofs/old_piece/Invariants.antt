-- The piece is the piece at depth d.
use Rattle.std.proofs.Common.{◌≡◌, ◌-◌}
use Rattle.pieces.specs.Piece.{kept_piece}
use Rattle.pieces.proofs.old_piece.Given as goal

abbrev pub invariant-loop-d : goal.invariant-loop-d
invariant-loop-d l = kept_piece l.n l.depth l.call ≡ kept_piece (l.end - l.d) l.d l.call
