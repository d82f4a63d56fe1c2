-- Bytes that should be zero: their sum, and the first that is not.
use Prim.Native.Nat.{ℕ, zero, suc, ◌+◌, ◌-◌}
use mathlib.Core.Path.{◌≡◌, sym, ◌∙◌}
use mathlib.Core.Bool.{◌&&◌, and_assoc, and-true}
use Rattle.std.specs.Prelude.{Some, Bool, true, false, not, cond, nat_eq, refl, [], ◌∷◌, option_map, position, fold, sum}
use Rattle.std.specs.List.{position_from}
use Rattle.std.proofs.lemmas.Iterator.Adapters.{position_from-zero}
use mathlib.Core.List.{List}
use native.Mathlib.Omega.{arith}
use native.Mathlib.Nat.{zero-add}
use lib.Dec.{eqb}
use lib.ListN.{length, take, drop}
use lib.Seq.{take-length}
use Rattle.std.proofs.Common.{length-drop}
use borrow.Author.Tests.{ne_eqb}
use Rattle.spec.specs.Basics.{when, or_else, first_of}
use Rattle.spec.specs.Check.{not_zero}
use Rattle.laws.specs.Codec.Zeros.{zeros}

-- a sum is zero if both parts are
sum-zero : (a b : ℕ) → eqb (a + b) 0 ≡ (eqb a 0 && eqb b 0)
sum-zero zero b = rw zero-add
sum-zero (suc a) b = rw (ne_eqb (suc a + b) 0 (λ (e : suc a + b ≡ 0). omega arith), ne_eqb (suc a) 0 (λ (e : suc a ≡ 0). omega arith))

sums_on : (s : List ℕ) (n : ℕ) → eqb (fold (λ a x. a + x) n s) 0 ≡ (eqb n 0 && zeros s)
unfolding zeros
sums_on [] n = sym (and-true (eqb n 0))
sums_on (x ∷ s) n = sums_on s (n + x) ∙ rw sum-zero (and_assoc (eqb n 0) (eqb x 0) (zeros s))

pub zeros_sum : (s : List ℕ) → eqb (sum s) 0 ≡ zeros s
unfolding zeros
zeros_sum s = sums_on s 0

-- the bytes from place n on, as a slice shows them
pub rest : (s : List ℕ) (n : ℕ) → take (length s - n) (drop n s) ≡ drop n s
rest s n = let l : length (drop n s) ≡ length s - n = length-drop n s in rw (← l) (take-length (drop n s))

-- the first byte that is not zero, as the library looks for it
found_from : (s : List ℕ) (a k : ℕ) → option_map (λ i. a + i) (position_from (λ x. not (nat_eq x 0)) k s) ≡ not_zero (a + k) s
unfolding not_zero first_of when or_else
found_from [] a k = refl
found_from (x ∷ s) a k = by (nat_eq x 0) (found_from s a (k + 1))
  where
    by
        : (t : Bool)
        → option_map (λ i. a + i) (position_from (λ x. not (nat_eq x 0)) (k + 1) s) ≡ not_zero (a + (k + 1)) s
        → option_map (λ i. a + i) (cond (not t) (Some k) (position_from (λ x. not (nat_eq x 0)) (k + 1) s)) ≡ or_else (when (not t) (a + k)) (not_zero (suc (a + k)) s)
    by true e = let z : a + (k + 1) ≡ suc (a + k) = omega arith in e ∙ rw z
    by false e = refl

pub found : (s : List ℕ) (a : ℕ) → option_map (λ i. a + i) (position (λ x. not (nat_eq x 0)) s) ≡ not_zero a s
found s a = let z : a + 0 ≡ a = omega arith in rw (position_from-zero (λ x. not (nat_eq x 0)) s) (found_from s a 0 ∙ rw z)
