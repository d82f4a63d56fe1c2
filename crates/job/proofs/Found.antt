-- The first member of a list at which a test holds, as the library finds it among the members' numbers.
use Prim.Native.Nat.{ℕ, zero, suc, ◌+◌, ◌<◌}
use mathlib.Core.Path.{◌≡◌, refl, ◌∙◌}
use mathlib.Core.Bool.{Bool, true, false}
use mathlib.Core.List.{List, [], ◌∷◌}
use native.Mathlib.Omega.{arith}
use native.Mathlib.Nat.{add-zero}
use lib.ListN.{length, get_or}
use Rattle.std.specs.Prelude.{Option, None, Some, option_map, find}
use Rattle.std.specs.List.{range_with_len}
use Rattle.spec.specs.Basics.{when, or_else, first_of}

module _ {A : Type 0} (t : ℕ → A → Bool) (d : A) (place : ℕ → ℕ) (test : ℕ → Bool) where
  from : (xs : List A) (k : ℕ) → ((j : ℕ) → j < length xs → test (k + j) ≡ t (k + j) (get_or xs j d)) → option_map place (find test (range_with_len k (length xs))) ≡ first_of (λ k x. when (t k x) (place k)) k xs
  unfolding first_of when or_else
  from [] k e = refl
  from (x ∷ xs) k e =
      let here : test k ≡ t k x = rw add-zero at (e 0 (omega arith)) in
      by (t k x) here (from xs (k + 1) (λ j l. let z : k + 1 + j ≡ k + suc j = omega arith in rw z (e (suc j) (omega arith))))
    where
      by
          : (b : Bool)
          → test k ≡ b
          → option_map place (find test (range_with_len (k + 1) (length xs))) ≡ first_of (λ k x. when (t k x) (place k)) (k + 1) xs
          → option_map place (find test (range_with_len k (suc (length xs)))) ≡ or_else (when b (place k)) (first_of (λ k x. when (t k x) (place k)) (suc k) xs)
      by true h f = rw h
      by false h f = let z : k + 1 ≡ suc k = omega arith in rw h (f ∙ rw z)

  pub found : (xs : List A) (n : ℕ) → length xs ≡ n → ((j : ℕ) → j < n → test j ≡ t j (get_or xs j d)) → option_map place (find test (range_with_len 0 n)) ≡ first_of (λ k x. when (t k x) (place k)) 0 xs
  found xs n l e = rw (← l) (from xs 0 (λ j m. let z : 0 + j ≡ j = omega arith in rw z (e j (rw (← l) m))))

pub found_below : (test : ℕ → Bool) (k n i : ℕ) → Some i ≡ find test (range_with_len k n) → i < k + n
found_below test k zero i = λ e. cc
found_below test k (suc n) i = by (test k) refl (found_below test (k + 1) n i)
  where
    by : (b : Bool) → test k ≡ b → (Some i ≡ find test (range_with_len (k + 1) n) → i < k + 1 + n) → Some i ≡ find test (range_with_len k (suc n)) → i < k + suc n
    by true h f e = let z : i ≡ k = cc in omega arith
    by false h f e = let l : i < k + 1 + n = f (rw h at e) in omega arith

-- what was found, with no reading of the items
pub as_found : {o r : Option ℕ} → option_map (λ x. x) o ≡ r → o ≡ r
as_found {o = None} e = e
as_found {o = Some x} e = e
