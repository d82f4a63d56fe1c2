-- The law of the splits (Parts) says which piece new page i is.
use Rattle.std.proofs.Common.{◌≡◌, sym, ap, ◌∙◌, ◌+◌, ◌-◌, ◌≤◌, arith, length}
use Rattle.spec.specs.Decode.{page_of}
use Rattle.spec.specs.Encode.{page_bytes}
use Rattle.spec.specs.Split.{split_count}
use Rattle.page.specs.Room.{room}
use Rattle.pieces.specs.Piece.{new_piece, cut}
use Rattle.pieces.specs.Parts.{split_deep, grow_new, new_fits}
use Rattle.pieces.proofs.write_new.Goals as goal

pub new_piece-requires : goal.new_piece-requires
new_piece-requires c = omega (arith, split_deep c.requires.1)

pub write_piece-requires : goal.write_piece-requires
write_piece-requires c =
    let piece : let p = page_of c.args.page.now in
    let k = c.args.r.call in
    c.new_piece.result ≡ new_piece (split_count p k - c.args.i) (p.depth + (c.args.i - 1)) k = cc in
    let within : c.args.i ≤ split_count (page_of c.args.page.now) c.args.r.call = rw (← c.requires.2) c.requires.4 in
    (c.requires.0, rw (piece) (new_fits c.requires.1 c.args.i c.requires.3 within))

pub returns : goal.returns
returns c =
    let piece : let p = page_of c.args.page.now in
    let k = c.args.r.call in
    c.new_piece.result ≡ new_piece (split_count p k - c.args.i) (p.depth + (c.args.i - 1)) k = cc in
    let s = c.args.page.now in
    let within : c.args.i ≤ split_count (page_of s) c.args.r.call = rw (← c.requires.2) c.requires.4 in
    λ g h.
    c.write_piece.ensures
    ∙ ap (page_bytes (room (length s))) (ap (cut (page_of s) c.args.r) (piece) ∙ sym (grow_new c.requires.1 g c.args.i h c.requires.3 within))
