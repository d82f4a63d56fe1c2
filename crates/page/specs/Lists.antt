-- Filters, member by member.
use Rattle.std.specs.Prelude.{◌≡◌, Bool, true, false}
use Rattle.std.proofs.Math.Path.{refl}
use mathlib.Core.List.{List, [], ◌∷◌, ◌++◌}
use Rattle.spec.specs.Basics.{filter, Each}
use Rattle.laws.specs.Tools.{if-true, if-false, if_ap, first, rest}

module _ {A : Type 0} where
  pub filter-take : (f : A → Bool) (x : A) (xs : List A) → f x ≡ true → filter f (x ∷ xs) ≡ x ∷ filter f xs
  unfolding filter
  filter-take f x xs e = if-true _ _ e

  pub filter_skip : (f : A → Bool) (x : A) (xs : List A) → f x ≡ false → filter f (x ∷ xs) ≡ filter f xs
  unfolding filter
  filter_skip f x xs e = if-false _ _ e

  pub filter-nil : (f : A → Bool) → filter f [] ≡ []
  unfolding filter
  filter-nil f = refl

  pub filter_join : (f : A → Bool) (xs ys : List A) → filter f (xs ++ ys) ≡ filter f xs ++ filter f ys
  unfolding filter
  filter_join f [] ys = refl
  filter_join f (x ∷ xs) ys = rw (filter_join f xs ys) (if_ap (λ l. l ++ filter f ys) (f x) (x ∷ filter f xs) (filter f xs))

  pub filter_same : (f g : A → Bool) (xs : List A) → Each (λ (x : A). f x ≡ g x) xs → filter f xs ≡ filter g xs
  unfolding filter
  filter_same f g [] h = refl
  filter_same f g (x ∷ xs) h = rw (first h, filter_same f g xs (rest h))
