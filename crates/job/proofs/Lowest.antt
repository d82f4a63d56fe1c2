-- The lowest number that passes a test, of one test and of two.
use Prim.Native.Nat.{ℕ, zero, suc, ◌+◌, ◌<◌, ◌≤◌, min}
use mathlib.Core.Path.{◌≡◌, refl, ◌∙◌}
use mathlib.Core.Bool.{Bool, true, false, ◌||◌, or-true}
use native.Mathlib.Omega.{arith}
use native.Mathlib.Decide.{ℕ_discrete, dec_lt}
use Rattle.std.specs.Prelude.{Option, None, Some, cond, find}
use Rattle.std.specs.List.{range_with_len}
use Rattle.job.specs.Owner.{NonePass, LowestOf, lower}

-- as the library finds it
pub lowest_found : (t : ℕ → Bool) (from n : ℕ) → LowestOf t from (from + n) (find t (range_with_len from n))
lowest_found t from zero = λ q a z. absurd (omega arith)
lowest_found t from (suc n) = by (t from) refl (find t (range_with_len (from + 1) n)) (lowest_found t (from + 1) n)
  where
    none : (b : ℕ) → t from ≡ false → NonePass t (from + 1) b → NonePass t from b
    none b e h q a l = at (ℕ_discrete q from)
      where
        at : Dec (q ≡ from) → t q ≡ false
        at (yes f) = rw f e
        at (no f) = h q (omega (arith, f)) l

    by : (b : Bool) → t from ≡ b → (o : Option ℕ) → LowestOf t (from + 1) (from + 1 + n) o → LowestOf t from (from + suc n) (cond b (Some from) o)
    by true e o h = record { least = omega arith; most = omega arith; before = λ q a z. absurd (omega arith); here = e }
    by false e None h = λ q a z. none (from + 1 + n) e h q a (omega arith)
    by false e (Some r) h = record { least = omega (arith, h.least); most = omega (arith, h.most); before = none r e h.before; here = h.here }

-- of two tests, the lower of the two lowest
pub lowest_or
    : (s t u : ℕ → Bool) (n : ℕ) (p q : Option ℕ)
    → ((j : ℕ) → j < n → u j ≡ (s j || t j))
    → LowestOf s 0 n p
    → LowestOf t 0 n q
    → LowestOf u 0 n (lower p q)
unfolding lower
lowest_or s t u n None None e a b = λ k z l. rw (e k l, a k z l) (b k z l)
lowest_or s t u n None (Some q) e a b =
    record {
      least = b.least;
      most = b.most;
      before = λ k z l. rw (e k (omega (arith, b.most)), a k z (omega (arith, b.most))) (b.before k z l);
      here = rw (e q b.most, b.here) (or-true (s q));
    }
lowest_or s t u n (Some p) None e a b =
    record {
      least = a.least;
      most = a.most;
      before = λ k z l. rw (e k (omega (arith, a.most)), a.before k z l) (b k z (omega (arith, a.most)));
      here = rw (e p a.most, a.here);
    }
lowest_or s t u n (Some p) (Some q) e a b =
    record { least = omega arith; most = omega (arith, a.most); before = below; here = by (dec_lt p q) }
  where
    below : (k : ℕ) → 0 ≤ k → k < min p q → u k ≡ false
    below k z l = rw (e k (omega (arith, a.most)), a.before k (omega arith) (omega arith)) (b.before k (omega arith) (omega arith))

    by : Dec (p < q) → u (min p q) ≡ true
    by (yes f) = let z : min p q ≡ p = omega arith in rw (z, e p a.most, a.here)
    by (no f) = let z : min p q ≡ q = omega (arith, f) in rw (z, e q b.most, b.here) (or-true (s q))

-- the same test, said otherwise
pub lowest_same : (t u : ℕ → Bool) (n : ℕ) (r : Option ℕ) → ((j : ℕ) → u j ≡ t j) → LowestOf t 0 n r → LowestOf u 0 n r
lowest_same t u n None e a = λ q z l. e q ∙ a q z l
lowest_same t u n (Some r) e a = record { least = a.least; most = a.most; before = λ q z l. e q ∙ a.before q z l; here = e r ∙ a.here }
