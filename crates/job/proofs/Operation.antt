-- What is told of an operation's kind, and row 9.
use Prim.Native.Nat.{ℕ}
use mathlib.Core.Path.{◌≡◌, refl, ap}
use mathlib.Core.Bool.{Bool, true, false}
use native.Mathlib.Omega.{arith}
use native.Mathlib.Decide.{ℕ_discrete}
use lib.Dec.{eqb}
use borrow.Author.Tests.{eq-eqb, ne_eqb}
use Rattle.std.specs.Prelude.{Option, None, Some, unwrap_or}
use Rattle.spec.specs.declared.Kind.{Kind}
use Rattle.spec.specs.declared.Kind.TheVariants.{Search, Insert, Delete}
use Rattle.spec.specs.Basics.{if}
use Rattle.spec.specs.Job.{kind_of}
use Rattle.spec.specs.Check.{outside}
use Rattle.laws.specs.Codec.Tools.{outside_no}

-- what is told of a number
abbrev pub told : ℕ → Option Kind
told n = if (outside 1 3 n) None (Some (kind_of n))

pub none_told : (n : ℕ) → told n ≡ None → outside 1 3 n ≡ true
unfolding if
none_told n = by (outside 1 3 n)
  where
    by : (b : Bool) → if b None (Some (kind_of n)) ≡ None → b ≡ true
    by true e = refl
    by false e = cc

pub kind_told : (n : ℕ) (k : Kind) → told n ≡ Some k → (outside 1 3 n ≡ false) × (kind_of n ≡ k)
unfolding if
kind_told n k = by (outside 1 3 n)
  where
    by : (b : Bool) → if b None (Some (kind_of n)) ≡ Some k → (b ≡ false) × (kind_of n ≡ k)
    by true e = cc
    by false e = (refl, ap (λ o. unwrap_or o k) e)

-- 1 is the number of a search, and of no other
pub one_searches : (n : ℕ) → outside 1 3 n ≡ false → kind_of n ≡ Search → eqb n 1 ≡ true
unfolding kind_of if
one_searches n w e = by (ℕ_discrete n 1) (ℕ_discrete n 2)
  where
    by : Dec (n ≡ 1) → Dec (n ≡ 2) → eqb n 1 ≡ true
    by (yes q) m = eq-eqb n 1 q
    by (no q) (yes m) = let f : Insert ≡ Search = rw m at e in cc
    by (no q) (no m) =
        let z : n ≡ 3 = let l = (outside_no 1 3 n).0 w in omega (arith, l.0, l.1, q, m) in
        let f : Delete ≡ Search = rw z at e in cc

pub not_one : (n : ℕ) (k : Kind) → (Search ≡ k → ⊥) → kind_of n ≡ k → eqb n 1 ≡ false
unfolding kind_of if
not_one n k w e = ne_eqb n 1 (λ (q : n ≡ 1). w (rw q at e))
