-- Bytes that should be zero: what it means that row 13 tells no place, and what place it tells.
use Rattle.std.proofs.Math.Logic.Iff
use Rattle.std.specs.Prelude.{ℕ, zero, suc, ◌+◌, ◌-◌, ◌<◌, ◌≤◌, ◌≡◌, refl, ◌↔◌, List, [], ◌∷◌, Bool, true, false, not, ◌&&◌, eqb, length, drop, replicate, Option, None, Some}
use Rattle.std.proofs.Common.{ap, ◌∙◌, arith}
use Rattle.std.proofs.Math.Logic.{by_cases}
use Rattle.std.proofs.Math.Bool.{and-eq-true_iff}
use Rattle.std.proofs.lemmas.Option.{none-some}
use Rattle.std.proofs.Math.Decide.{ℕ_discrete, dec_lt}
use Rattle.spec.specs.Basics.{when, or_else, first_of}
use Rattle.spec.specs.Bytes.{byte}
use Rattle.spec.specs.Check.{not_zero}
use Rattle.laws.specs.Codec.Tools.{failed, eqb_no, eqb_yes, or_else_none}

-- every byte is zero
unfoldable pub zeros : List ℕ → Bool
zeros [] = true
zeros (x ∷ xs) = eqb x 0 && zeros xs

-- row 13
pub not-zero-none : (a : ℕ) (s : List ℕ) → not_zero a s ≡ None ↔ zeros s ≡ true
unfolding not_zero first_of zeros
not-zero-none a [] = (λ e. refl, λ e. refl)
not-zero-none a (x ∷ s) = simp (or_else_none, failed, and-eq-true_iff, not-zero-none (suc a) s) Iff.rfl

pub zeros_byte : (b : List ℕ) → zeros b ≡ true → (p : ℕ) → byte b p ≡ 0
unfolding zeros byte
zeros_byte [] e p = refl
zeros_byte (x ∷ b) e zero = (simp (and-eq-true_iff, failed) at e).0
zeros_byte (x ∷ b) e (suc p) = zeros_byte b (simp and-eq-true_iff at e).1 p

pub zeros_drop : (b : List ℕ) (n : ℕ) → zeros b ≡ true → zeros (drop n b) ≡ true
unfolding zeros
zeros_drop b zero e = e
zeros_drop [] (suc n) e = refl
zeros_drop (x ∷ b) (suc n) e = zeros_drop b n (simp and-eq-true_iff at e).1

pub zeros_replicate : (n : ℕ) → zeros (replicate n 0) ≡ true
unfolding zeros
zeros_replicate zero = refl
zeros_replicate (suc n) = zeros_replicate n

-- at place p stands the first byte of s that is not zero; s itself begins at place a
pub record FirstSet (a : ℕ) (s : List ℕ) (p : ℕ) : Type 0 where
  pub from : a ≤ p
  pub within : p < a + length s
  pub set : byte s (p - a) ≡ 0 → ⊥
  pub before : (q : ℕ) → a ≤ q → q < p → byte s (q - a) ≡ 0

first_set : (a : ℕ) (s : List ℕ) (p : ℕ) → not_zero a s ≡ Some p → FirstSet a s p
unfolding not_zero first_of when or_else byte
first_set a [] p = λ e. absurd (none-some _ e)
first_set a (x ∷ s) p = by (eqb x 0) refl (first_set (suc a) s p)
  where
    by
        : (t : Bool)
        → eqb x 0 ≡ t
        → (not_zero (suc a) s ≡ Some p → FirstSet (suc a) s p)
        → or_else (when (not t) a) (not_zero (suc a) s) ≡ Some p
        → FirstSet a (x ∷ s) p
    by false z later e =
        let h : a ≡ p = cc in
        let k : p - a ≡ 0 = omega arith in
        record { from = omega arith; within = omega arith; set = rw k ((eqb_no x 0).0 z); before = λ q l u. absurd (omega arith) }
    by true z later e =
        let w = later e in
        let k : p - a ≡ suc (p - suc a) = omega (arith, w.from) in
        record { from = omega (arith, w.from); within = omega (arith, w.within); set = rw k w.set; before = clear w }
      where
        clear : FirstSet (suc a) s p → (q : ℕ) → a ≤ q → q < p → byte (x ∷ s) (q - a) ≡ 0
        clear w q l u =
            by_cases (ℕ_discrete q a) (λ (h : q ≡ a). let k : q - a ≡ 0 = omega arith in rw k ((eqb_yes x 0).0 z))
            (λ n. let k : q - a ≡ suc (q - suc a) = omega (arith, n) in rw k (w.before q (omega (arith, n)) u))

-- ROW 13, WITH NO WORD OF WALKS
pub not-zero_said : (a : ℕ) (s : List ℕ) (p : ℕ) → not_zero a s ≡ Some p ↔ FirstSet a s p
not-zero_said a s p = (first_set a s p, λ w. by w (not_zero a s) refl)
  where
    -- two first ones are the same
    alone : FirstSet a s p → (q : ℕ) → FirstSet a s q → q ≡ p
    alone w q v =
        by_cases (dec_lt q p) (λ l. absurd (v.set (w.before q v.from l)))
        (λ n. by_cases (dec_lt p q) (λ l. absurd (w.set (v.before p w.from l))) (λ m. omega (arith, n, m)))

    by : FirstSet a s p → (o : Option ℕ) → not_zero a s ≡ o → not_zero a s ≡ Some p
    by w None e = absurd (w.set (zeros_byte s ((not-zero-none a s).0 e) (p - a)))
    by w (Some q) e = e ∙ ap Some (alone w q (first_set a s q e))
