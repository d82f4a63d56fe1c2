-- The numbers of the kinds.
use Prim.Native.Nat.{ℕ}
use mathlib.Core.Path.{◌≡◌, refl, sym, ◌∙◌}
use mathlib.Core.Bool.{Bool, true, false}
use native.Mathlib.Omega.{arith}
use borrow.Author.Tests.{ne_eqb}
use lib.Dec.{eqb}
use Rattle.std.proofs.lemmas.Bool.{false≢true}
use Rattle.std.specs.Prelude.{None, Some, unwrap_or}
use Rattle.spec.specs.declared.Kind.TheVariants.{Search}
use Rattle.spec.specs.Basics.{if}
use Rattle.spec.specs.Job.{kind_of}
use Rattle.spec.specs.Check.{outside}
use Rattle.laws.specs.Codec.Tools.{eqb_no, outside_no}

-- a number that is none of the three
pub beyond : (n : ℕ) → eqb n 1 ≡ false → eqb n 2 ≡ false → eqb n 3 ≡ false → outside 1 3 n ≡ true
beyond n a b c = by (outside 1 3 n) refl
  where
    by : (t : Bool) → outside 1 3 n ≡ t → t ≡ true
    by true e = refl
    by false e =
        let w = (outside_no 1 3 n).0 e in
        absurd (omega (arith, w.0, w.1, (eqb_no n 1).0 a, (eqb_no n 2).0 b, (eqb_no n 3).0 c))

-- where there is none, the definitions have a search
pub or_search : (n : ℕ) → unwrap_or (if (outside 1 3 n) None (Some (kind_of n))) Search ≡ kind_of n
unfolding if kind_of outside
or_search n = by (outside 1 3 n) refl
  where
    other : (k : ℕ) → outside 1 3 k ≡ false → outside 1 3 n ≡ true → eqb n k ≡ false
    other k f e = ne_eqb n k (λ (q : n ≡ k). let g : outside 1 3 k ≡ true = rw q at e in absurd (false≢true (sym f ∙ g)))

    by : (b : Bool) → outside 1 3 n ≡ b → unwrap_or (if b None (Some (kind_of n))) Search ≡ kind_of n
    by false e = refl
    by true e = rw (other 2 refl e, other 3 refl e)
