use Rattle.std.proofs.Common.{◌≡◌, sym, ap, ◌∙◌, true, false, ℕ, ◌+◌, ◌-◌, ◌≤◌, arith, pow_mono}
use Rattle.spec.specs.Key.{bit}
use Rattle.laws.specs.Key.{bits_of, bit_of}
use Rattle.pieces.specs.Piece.{own_piece, kept_piece}
use Rattle.pieces.specs.PieceLaws.{kept_one, kept-zero, kept_own, side_zero}
use Rattle.pieces.proofs.old_piece.Goals as goal

pub loop-d-init : goal.loop-d-init
loop-d-init c =
    let a = c.args in
    let all : a.n ≡ a.depth + a.n - a.depth = omega arith in
    ap (λ (m : ℕ). kept_piece m a.depth a.call) all

pub overflow_mul-result : goal.overflow_mul-result
overflow_mul-result c =
    let deep : c.loop-d.d ≤ 32 = omega arith in
    omega (arith, pow_mono deep)

pub returns-then-bit : goal.returns-then-bit
returns-then-bit c =
    let own = c.pseudo_key-key in
    let a = c.args in
    let d = c.loop-d.d in
    let one : bit d a.call ≡ true = sym (bit_of d a.call c.bit.ensures own.ensures) ∙ c.if-bit.true in
    let bits = bits_of d a.call c.first_bits.ensures.0 own.ensures in
    sym (c.loop-d.invariant ∙ kept_one (a.depth + a.n) d a.call (omega arith) one ∙ side_zero d a.call c.first_bits.result bits)

pub loop-d-preserved : goal.loop-d-preserved
loop-d-preserved c =
    let own = c.pseudo_key-key in
    let a = c.args in
    let d = c.loop-d.d in
    let no : bit d a.call ≡ false = sym (bit_of d a.call c.bit.ensures own.ensures) ∙ c.if-bit.false in
    c.loop-d.invariant ∙ kept-zero (a.depth + a.n) d a.call (omega arith) no

pub returns : goal.returns
unfolding own_piece
returns c =
    let own = c.pseudo_key-key in
    let a = c.args in
    let d = c.loop-d.d in
    let bits = bits_of (a.depth + a.n) a.call c.first_bits-2.ensures.0 own.ensures in
    sym (c.loop-d.invariant ∙ kept_own (a.depth + a.n) d a.call (omega arith) ∙ rw (← bits))
