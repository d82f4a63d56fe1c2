-- How many leading bits two keys share: the leading zeros of their exclusive-or.
use Rattle.std.specs.Prelude.{◌≡◌, refl, ℕ, zero, suc, ◌/◌, ◌≤◌}
use Rattle.std.proofs.Common.{ap, ◌∙◌, div-one, arith, eqb-true}
use Rattle.std.specs.Int.Bits.{bit_xor, xor_self, xor_add_and}
use Rattle.std.proofs.lemmas.Nat.{xor_shr, and_le_l, and_le_r}
use Rattle.std.specs.Int.Count.{count_leading_zeros, leading_of_zero}
use Rattle.std.proofs.lemmas.Bool.{eqb-false}
use Rattle.spec.specs.Key.{first_bits, shared}
use Rattle.laws.specs.Tools.{if_case}
use Rattle.laws.specs.Turns.Prefix.{first_bits-half}

xor-zero : (a b : ℕ) → bit_xor a b ≡ 0 → a ≡ b
xor-zero a b e = omega (arith, xor_add_and a b, and_le_l a b, and_le_r a b)

-- a number that is not 0 keeps its leading zeros without its lowest bit
leading_half : (n x : ℕ) → (x ≡ 0 → ⊥) → count_leading_zeros (suc n) x ≡ count_leading_zeros n (x / 2)
unfolding count_leading_zeros
leading_half n zero h = absurd (h refl)
leading_half n (suc x) h = refl

leading_first : (n a b : ℕ) → n ≤ 32 → count_leading_zeros n (bit_xor (first_bits n a) (first_bits n b)) ≡ shared n a b
unfolding shared count_leading_zeros
leading_first zero a b h = refl
leading_first (suc n) a b h =
    let x = first_bits (suc n) a in
    let y = first_bits (suc n) b in
    if_case (λ (k : ℕ). count_leading_zeros (suc n) (bit_xor x y) ≡ k)
    (λ e. rw (eqb-true x y e, xor_self) (leading_of_zero (suc n)))
    (λ e.
    leading_half n (bit_xor x y) (λ z. eqb-false x y e (xor-zero x y z))
    ∙ ap (count_leading_zeros n) (xor_shr x y 1)
    ∙ rw (first_bits-half n a h, first_bits-half n b h) (leading_first n a b (omega arith)))

pub leading_shared : (a b : ℕ) → count_leading_zeros 32 (bit_xor a b) ≡ shared 32 a b
unfolding first_bits
leading_shared a b = rw (div-one, div-one) at (leading_first 32 a b (omega arith))
