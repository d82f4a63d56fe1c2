use mathlib.Core.Logic.{inl, inr}
use mathlib.Core.Path.{◌≡◌, refl, ◌∙◌}
use Rattle.std.specs.Prelude.{Option, None, Some, ℕ, ◌⊎◌}
use Rattle.std.specs.Option.{option_or}
use Rattle.job.specs.Owner.{lower}
use Rattle.job.proofs.owner.lower.Goals as goal
use Rattle.job.proofs.owner.lower.Goals.{in_default-via-in-Some+in_default, in_default-via-in_default}

-- where there is one at most
one : (a b : Option ℕ) → (a ≡ None) ⊎ (b ≡ None) → option_or a b ≡ lower a b
unfolding lower
one None None e = refl
one None (Some b) e = refl
one (Some a) None e = refl
one (Some a) (Some b) (inl e) = cc
one (Some a) (Some b) (inr e) = cc

pub returns-in_default : goal.returns-in_default
returns-in_default c =
    c.or.ensures
    ∙ one _ _ (elim c.in_default.branch [ in_default-via-in-Some+in_default w ↦ inr w.in_default.is-1 | in_default-via-in_default w ↦ inl w.in_default.is-0 ])
