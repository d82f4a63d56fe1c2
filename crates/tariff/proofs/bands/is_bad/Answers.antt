use Rattle.std.proofs.Common.{◌≡◌, ℕ, Bool, true, false, not, ◌&&◌, ◌||◌, ltb, refl, rules, tests}
use Rattle.std.specs.Ordering.{is_le, nat_cmp}
use Rattle.spec.specs.Check.{outside}
use Rattle.tariff.proofs.bands.is_bad.Goals as goal

le_is : (a b : ℕ) → is_le (nat_cmp a b) ≡ not (ltb b a)
le_is a b = search (tests, rules)

not_and : (s t : Bool) → not (not s && not t) ≡ (s || t)
not_and true t = refl
not_and false true = refl
not_and false false = refl

pub returns-else-is_some : goal.returns-else-is_some
unfolding outside
returns-else-is_some c =
    rw (c.contains.ensures.value, c.new.ensures.start, c.new.ensures.end, c.new.ensures.exhausted, ← c.is_some.ensures, c.if-is_some.false, le_is 1 c.args.band.unit, le_is c.args.band.unit 3600)
    (not_and _ _)
