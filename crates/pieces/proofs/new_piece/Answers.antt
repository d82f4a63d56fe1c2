-- By the bit that split i goes by.
use Rattle.std.proofs.Common.{◌≡◌, sym, ◌∙◌, true, false, ◌+◌, ◌-◌}
use Rattle.spec.specs.Key.{bit}
use Rattle.laws.specs.Key.{bits_of, bit_of}
use Rattle.pieces.specs.PieceLaws.{new_one, new_zero, side_one}
use Rattle.pieces.proofs.new_piece.Goals as goal

pub returns-then-bit : goal.returns-then-bit
returns-then-bit c =
    let own = c.pseudo_key-key in
    let a = c.args in
    let d = a.depth + (a.i - 1) in
    let one : bit d a.call ≡ true = sym (bit_of d a.call c.bit.ensures own.ensures) ∙ c.if-bit.true in
    c.old_piece.ensures ∙ sym (new_one (a.n - a.i) d a.call one)

pub returns : goal.returns
returns c =
    let own = c.pseudo_key-key in
    let a = c.args in
    let d = a.depth + (a.i - 1) in
    let no : bit d a.call ≡ false = sym (bit_of d a.call c.bit.ensures own.ensures) ∙ c.if-bit.false in
    let bits = bits_of d a.call c.first_bits.ensures.0 own.ensures in
    sym (new_zero (a.n - a.i) d a.call no ∙ side_one d a.call c.first_bits.result bits)
