-- A test that fails refutes the claim: where a field of `TurnsWithin` holds, the test of that name in WeighedTurns is true. As in Refutes, each is
-- shown from the field's statement alone, whatever the machine is, and whatever the result.
use Rattle.std.specs.Prelude.{◌≡◌, true}
use borrow.Author.Tests.{eq-eqb, le-leb}
use Rattle.spec.specs.Job.{Job}
use Rattle.spec.specs.Result.{Result}
use Rattle.spec.specs.MostTurns.{TurnsWithin}
use Rattle.laws.specs.Refutes.{every_true}
use Rattle.laws.specs.WeighedTurns.{most, sharp, narrow, counts, told}

-- The fields, in the claim's order.
module _ (j : Job) (r : Result) (e : TurnsWithin j r) where
  most-true : most j r ≡ true
  unfolding most
  most-true = every_true _ _ (λ i l. le-leb _ _ (e.most j.turns i))

  sharp-true : sharp j r ≡ true
  unfolding sharp
  sharp-true = every_true _ _ (λ i l. le-leb _ _ (e.sharp j.turns i))

  narrow-true : narrow j r ≡ true
  unfolding narrow
  narrow-true = every_true _ _ (λ i l. le-leb _ _ (e.narrow j.turns i))

  counts-true : counts j r ≡ true
  unfolding counts
  counts-true = every_true _ _ (λ i l. eq-eqb _ _ (e.counts i))

  told-true : told j r ≡ true
  unfolding told
  told-true = every_true _ _ (λ i l. le-leb _ _ (e.told i))

  -- all of them
  pub turns_passes : (most j r ≡ true) × (sharp j r ≡ true) × (narrow j r ≡ true) × (counts j r ≡ true) × (told j r ≡ true)
  turns_passes = (most-true, sharp-true, narrow-true, counts-true, told-true)
