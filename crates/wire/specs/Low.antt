-- The n lowest bytes of a number, the lowest first.
use Rattle.std.specs.Prelude.{◌≡◌, refl, ◌≤◌, ◌/◌, ◌%◌, ℕ, List, length, take, [], ◌∷◌, ◌++◌}
use Rattle.std.specs.Int.{to_le_bytes, w64}
use Rattle.std.proofs.Common.{arith, length-take-le, append_assoc, append-nil}
use Rattle.spec.specs.Basics.{each}
use Rattle.spec.specs.Bytes.{two, four}

unfoldable pub low : ℕ → ℕ → List ℕ
low n v = take n (to_le_bytes w64 v)

pub length_low : (n v : ℕ) → n ≤ 8 → length (low n v) ≡ n
unfolding low
length_low n v h = length-take-le n (to_le_bytes w64 v) h

pub low_two : (v : ℕ) → low 2 v ≡ two v
unfolding low two
low_two v = refl

pub low_four : (v : ℕ) → low 4 v ≡ four v
unfolding low four two
low_four v =
    let a : v % 65536 % 256 ≡ v % 256 = omega arith in
    let b : v % 65536 / 256 % 256 ≡ v / 256 % 256 = omega arith in
    let d : v / 65536 / 256 % 256 ≡ v / 16777216 % 256 = omega arith in
    rw (a, b, d)

pub each_four : (f : ℕ → List ℕ) (a b c d : ℕ) → each f (a ∷ b ∷ c ∷ d ∷ []) ≡ f a ++ f b ++ f c ++ f d
unfolding each
each_four f a b c d = simp (append-nil, append_assoc)
