-- The records that begin with the pattern, the call where it is its own page, and the page closed.
use Rattle.std.proofs.Common.{◌≡◌, true, ◌<◌, ℕ, List, arith, rules, length}
use Rattle.spec.specs.Bytes.{byte}
use Rattle.spec.specs.Decode.{page_of}
use Rattle.spec.specs.File.{has_index, of_index}
use Rattle.laws.specs.Tools.{if-true, if-false}
use Rattle.page.specs.Room.{room}
use Rattle.page.specs.Keep.{Kept}
use Rattle.page.specs.KeepLaws.{kept-few, kept-length, kept_all, kept_image, kept_image_more}
use Rattle.pieces.specs.declared.Piece.{Piece}
use Rattle.pieces.specs.Piece.{cut}
use Rattle.pieces.specs.Splits.{Fits}
use Rattle.pieces.proofs.write_piece.Goals as goal

-- the call's own page has room for it
room_for
    : {s t : List ℕ} {m : ℕ} {q : Piece}
    → Fits (room (length s)) (page_of s) q
    → q.own ≡ true
    → Kept (has_index q.depth q.pattern) s t m (byte s 1)
    → m < room (length s)
unfolding of_index
room_for fits own k = omega (arith, fits.spare own, kept_all k)

pub put_in-requires : goal.put_in-requires
unfolding has_index
put_in-requires c =
    let k = c.keep-kept.ensures (has_index c.args.q.depth c.args.q.pattern) (λ a b t. search rules) in
    omega (arith, room_for c.requires.1 c.if-own.true k, kept-length k)

pub overflow_add-kept : goal.overflow_add-kept
unfolding has_index
overflow_add-kept c =
    let k = c.keep-kept.ensures (has_index c.args.q.depth c.args.q.pattern) (λ a b t. search rules) in
    omega (arith, room_for c.requires.1 c.if-own.true k)

pub close-requires : goal.close-requires
unfolding has_index
close-requires c =
    let k = c.keep-kept.ensures (has_index c.args.q.depth c.args.q.pattern) (λ a b t. search rules) in
    omega (arith, room_for c.requires.1 c.if-own.true k, kept-length k)

pub close-requires-else-own : goal.close-requires-else-own
unfolding has_index
close-requires-else-own c =
    let k = c.keep-kept.ensures (has_index c.args.q.depth c.args.q.pattern) (λ a b t. search rules) in
    omega (arith, kept-few k, kept-length k)

pub returns-then-own : goal.returns-then-own
unfolding cut has_index of_index byte
returns-then-own c =
    let q = c.args.q in
    let k = c.keep-kept.ensures (has_index q.depth q.pattern) (λ a b t. search rules) in
    let more = kept_image_more k c.requires.0 q.depth q.pattern c.args.r (λ i. search rules) (room_for c.requires.1 c.if-own.true k) in
    rw (if-true _ _ c.if-own.true) (cc more)

pub returns-else-own : goal.returns-else-own
unfolding cut has_index of_index
returns-else-own c =
    let q = c.args.q in
    let k = c.keep-kept.ensures (has_index q.depth q.pattern) (λ a b t. search rules) in
    rw (if-false _ _ c.if-own.false) (cc (kept_image k c.requires.0 q.depth q.pattern))
