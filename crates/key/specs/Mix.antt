-- FNV-1a of a call's four bytes, byte by byte; and the product of two 32-bit numbers.
use Rattle.std.specs.Prelude.{◌≡◌, refl, ℕ, ◌+◌, ◌*◌, ◌/◌, ◌%◌, ◌^◌, ◌<◌, ◌≤◌, List, [], ◌∷◌}
use Rattle.std.specs.Int.{to_le_bytes, w32}
use Rattle.std.specs.List.{fold}
use Rattle.std.proofs.Common.{ap, ◌∙◌, mul-le-mul, arith}
use Rattle.spec.specs.Bytes.{two, four}
use Rattle.spec.specs.Key.{mixed, hashed, pseudo_key}

-- a product of two numbers of 32 bits has 64
pub product_lt : (a b : ℕ) → a < 2 ^ 32 → b < 2 ^ 32 → a * b < 2 ^ 64
product_lt a b h k = let m : a ≤ 4294967295 = omega arith in let n : b ≤ 4294967295 = omega arith in omega (arith, mul-le-mul m n)

-- the four bytes of a call, lowest first: one after another, and as the library gives them. (`mixed` stays shut, as everywhere in proofs about code.)
pub key-mixed
    : (call : ℕ)
    → call < 2 ^ 32
    → mixed (mixed (mixed (mixed 2166136261 (call % 256)) (call / 256 % 256)) (call / 65536 % 256)) (call / 16777216) ≡ pseudo_key call
unfolding pseudo_key hashed four two
key-mixed call h =
    let first : call % 256 ≡ call % 65536 % 256 = omega arith in
    let half : call / 256 ≡ 256 * (call / 65536) + call % 65536 / 256 = omega arith in
    let second : call / 256 % 256 ≡ call % 65536 / 256 % 256 = rw half (omega arith) in
    let high : call / 65536 / 256 ≡ call / 16777216 = omega arith in
    let fourth : call / 16777216 ≡ call / 65536 / 256 % 256 = rw high (omega arith) in
    rw (first, second, fourth)

hashed-fold : (hash : ℕ) (bs : List ℕ) → fold mixed hash bs ≡ hashed hash bs
unfolding hashed
hashed-fold hash [] = refl
hashed-fold hash (b ∷ bs) = hashed-fold (mixed hash b) bs

four_bytes : (call : ℕ) → to_le_bytes w32 call ≡ four call
unfolding four two
four_bytes call =
    let a : call % 65536 % 256 ≡ call % 256 = omega arith in
    let b : call % 65536 / 256 % 256 ≡ call / 256 % 256 = omega arith in
    let d : call / 65536 / 256 % 256 ≡ call / 16777216 % 256 = omega arith in
    rw (a, b, d)

pub pseudo_key-fold : (call : ℕ) → fold mixed 2166136261 (to_le_bytes w32 call) ≡ pseudo_key call
unfolding pseudo_key
pseudo_key-fold call = ap (fold mixed 2166136261) (four_bytes call) ∙ hashed-fold 2166136261 (four call)
