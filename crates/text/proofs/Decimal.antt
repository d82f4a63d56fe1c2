-- The decimal digits of a number: the last digit stands behind those of the tenth part; how many there are.
use mathlib.Core.Path.{◌≡◌, refl, sym, ap, ◌∙◌}
use mathlib.Core.Logic.{by_cases}
use mathlib.Core.List.{List, [], ◌∷◌, ◌++◌, append_assoc}
use Prim.Native.Nat.{ℕ, zero, suc, ◌+◌, ◌*◌, ◌/◌, ◌%◌, ◌^◌, ◌≤◌, ◌<◌}
use native.Mathlib.Omega.{arith}
use native.Mathlib.Decide.{dec_lt}
use lib.ListN.{length, length-append}
use lib.Dec.{ltb}
use borrow.Author.Tests.{ltb-false, lt-ltb, le-ltb}
use Rattle.spec.specs.Basics.{if}
use Rattle.spec.specs.Report.{digits, decimal}
use Rattle.laws.specs.Tools.{if_both, if_ap}

digits_acc : (f n : ℕ) (acc : List ℕ) → digits f n acc ≡ digits f n [] ++ acc
unfolding digits
digits_acc zero n acc = refl
digits_acc (suc f) n acc =
    if_both (λ (u v : List ℕ). u ≡ v) (λ e. refl)
    (λ e.
    digits_acc f (n / 10) ((48 + n % 10) ∷ acc)
    ∙ sym (append_assoc (digits f (n / 10) []) ((48 + n % 10) ∷ []) acc)
    ∙ ap (λ (l : List ℕ). l ++ acc) (sym (digits_acc f (n / 10) ((48 + n % 10) ∷ []))))
    ∙ if_ap (λ (l : List ℕ). l ++ acc) (ltb n 10) ((48 + n) ∷ []) (digits f (n / 10) ((48 + n % 10) ∷ []))

digits_fuel : (f g n : ℕ) (acc : List ℕ) → n < f → n < g → digits f n acc ≡ digits g n acc
unfolding digits
digits_fuel zero g n acc h k = absurd (omega arith)
digits_fuel (suc f) zero n acc h k = absurd (omega arith)
digits_fuel (suc f) (suc g) n acc h k =
    if_both (λ (u v : List ℕ). u ≡ v) (λ e. refl) (λ e. let big = ltb-false n 10 e in digits_fuel f g (n / 10) ((48 + n % 10) ∷ acc) (omega arith) (omega arith))

-- one digit
pub decimal-small : (n : ℕ) → n < 10 → decimal n ≡ (48 + n) ∷ []
unfolding decimal digits if
decimal-small n h = rw (lt-ltb n 10 h)

-- more than one
pub decimal_large : (n : ℕ) → 10 ≤ n → decimal n ≡ decimal (n / 10) ++ ((48 + n % 10) ∷ [])
unfolding decimal digits if
decimal_large n h =
    rw (le-ltb n 10 h)
    (digits_acc n (n / 10) ((48 + n % 10) ∷ [])
    ∙ ap (λ (l : List ℕ). l ++ ((48 + n % 10) ∷ [])) (digits_fuel n (suc (n / 10)) (n / 10) [] (omega arith) (omega arith)))

pub length-decimal_large : (n : ℕ) → 10 ≤ n → length (decimal n) ≡ length (decimal (n / 10)) + 1
length-decimal_large n h = rw (decimal_large n h) (length-append (decimal (n / 10)) ((48 + n % 10) ∷ []))

-- how many digits there are
unfoldable tens : ℕ → ℕ
tens zero = 1
tens (suc k) = 10 * tens k

decimal-short : (k n : ℕ) → n < tens (suc k) → length (decimal n) ≤ suc k
unfolding tens
decimal-short zero n h = rw (decimal-small n (omega arith)) (omega arith)
decimal-short (suc k) n h =
    by_cases (dec_lt n 10) (λ (e : n < 10). rw (decimal-small n e) (omega arith))
    (λ (e : n < 10 → ⊥).
    rw (decimal_large n (omega arith), length-append) (let i = decimal-short k (n / 10) (tenth n (tens (suc k)) h) in omega arith))
  where
    tenth : (n m : ℕ) → n < 10 * m → n / 10 < m
    tenth n m h = omega arith

pub decimal_ten : (n : ℕ) → n < 2 ^ 32 → length (decimal n) ≤ 10
unfolding tens
decimal_ten n h = decimal-short 9 n (omega arith)

pub decimal_twenty : (n : ℕ) → n < 2 ^ 64 → length (decimal n) ≤ 20
unfolding tens
decimal_twenty n h = decimal-short 19 n (omega arith)
