-- Started units by whole numbers, and the largest charge: 2^64 − 2^32, so that 64 bits hold every charge.
use Rattle.std.specs.Prelude.{ℕ, suc, ◌+◌, ◌-◌, ◌*◌, ◌/◌, ◌<◌, ◌≤◌, ◌≡◌}
use Rattle.std.proofs.Common.{arith, mul-le-mul, le-mul_of_pos_right, div-lt_iff_lt-mul}
use Rattle.std.proofs.Math.Nat.{div-eq_of_lt}

-- the largest number of four bytes, as fee, prices and seconds are
abbrev pub max_long : ℕ
max_long = 4294967295

-- no more units than seconds
pub units_most : (x u : ℕ) → 1 ≤ u → (x + (u - 1)) / u ≤ x
units_most x u l =
    let m = le-mul_of_pos_right {m = u} x (omega arith) in
    let h : x + (u - 1) < suc x * u = omega arith in
    let q : (x + (u - 1)) / u < suc x = (div-lt_iff_lt-mul {k = u} {x = x + (u - 1)} {y = suc x} (omega arith)).1 h in
    omega arith

-- no unit within the free seconds
pub units_none : (talked free u : ℕ) → 1 ≤ u → talked ≤ free → 0 ≡ (talked - free + (u - 1)) / u
units_none talked free u l h =
    let z : talked - free + (u - 1) < u = omega arith in
    rw (div-eq_of_lt z)

pub product_most : (p n : ℕ) → p ≤ max_long → n ≤ max_long → p * n ≤ 18446744065119617025
product_most p n h k = let m = mul-le-mul h k in omega arith

pub largest : (f p n : ℕ) → f ≤ max_long → p ≤ max_long → n ≤ max_long → f + p * n ≤ 18446744069414584320
largest f p n g h k = let m = product_most p n h k in omega arith
