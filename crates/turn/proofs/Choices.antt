-- Laws of `if` where the comparison of numbers is known.
use mathlib.Core.Path.{◌≡◌}
use Prim.Native.Nat.{ℕ, ◌≤◌, ◌<◌}
use lib.Dec.{eqb, ltb, leb}
use borrow.Author.Tests.{eq-eqb, ne_eqb, lt-ltb, le-ltb, le-leb, lt-leb}
use Rattle.spec.specs.Basics.{if}
unfoldable pub use Rattle.spec.specs.Basics.{if as chosen}
use Rattle.laws.specs.Tools.{if-true, if-false}

module _ {A : Type 0} (a b : ℕ) (x y : A) where
  pub if-eq : a ≡ b → if (eqb a b) x y ≡ x
  if-eq e = if-true x y (eq-eqb a b e)

  pub if-ne : (a ≡ b → ⊥) → if (eqb a b) x y ≡ y
  if-ne e = if-false x y (ne_eqb a b e)

  pub if-lt : a < b → if (ltb a b) x y ≡ x
  if-lt h = if-true x y (lt-ltb a b h)

  pub if-not-lt : b ≤ a → if (ltb a b) x y ≡ y
  if-not-lt h = if-false x y (le-ltb a b h)

  pub if-le : a ≤ b → if (leb a b) x y ≡ x
  if-le h = if-true x y (le-leb a b h)

  pub if-not-le : b < a → if (leb a b) x y ≡ y
  if-not-le h = if-false x y (lt-leb a b h)

pub ruleset choices = (if-eq, if-ne, if-lt, if-not-lt, if-le, if-not-le, if-true, if-false)
