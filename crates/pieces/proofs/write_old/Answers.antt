-- The law of the splits (Parts) says which piece the old page is.
use Rattle.std.proofs.Common.{◌≡◌, sym, ap, ◌∙◌, arith, length}
use Rattle.spec.specs.Decode.{page_of}
use Rattle.spec.specs.Encode.{page_bytes}
use Rattle.spec.specs.Split.{split_count}
use Rattle.page.specs.Room.{room}
use Rattle.pieces.specs.Piece.{kept_piece, cut}
use Rattle.pieces.specs.Parts.{split_deep, grow-old, old-fits}
use Rattle.pieces.proofs.write_old.Goals as goal

pub old_piece-requires : goal.old_piece-requires
old_piece-requires c = omega (arith, split_deep c.requires.1)

pub write_piece-requires : goal.write_piece-requires
write_piece-requires c =
    let piece : let p = page_of c.args.page.now in
    let k = c.args.r.call in
    c.old_piece.result ≡ kept_piece (split_count p k) p.depth k = cc in
    (c.requires.0, rw (piece) (old-fits c.requires.1))

pub returns : goal.returns
returns c =
    let piece : let p = page_of c.args.page.now in
    let k = c.args.r.call in
    c.old_piece.result ≡ kept_piece (split_count p k) p.depth k = cc in
    let s = c.args.page.now in
    λ g h.
    c.write_piece.ensures
    ∙ ap (page_bytes (room (length s))) (ap (cut (page_of s) c.args.r) (piece) ∙ sym (grow-old c.requires.1 g h))
