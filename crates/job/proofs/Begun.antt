-- The entries that a page begins: page x, of depth l and pattern p, those from p * 2^(g-l) up to the next such number.
use Prim.Native.Nat.{ℕ, ◌+◌, ◌-◌, ◌*◌, ◌^◌, ◌<◌, ◌≤◌}
use mathlib.Core.Path.{◌≡◌}
use mathlib.Core.Bool.{true, false, not-eq-not}
use mathlib.Core.List.{[]}
use native.Mathlib.Omega.{arith}
use Rattle.spec.specs.Key.{begins}
use Rattle.spec.specs.File.{Page}
use Rattle.laws.specs.Turns.Interval.{start_of, end_start, begins_range, range_begins, end_le}

module _ (g l p : ℕ) where
  -- how many, and the first
  abbrev pub run : ℕ
  run = 2 ^ (g - l)

  abbrev pub first : ℕ
  first = p * run

  -- a page of this depth and pattern
  abbrev page : Page
  page = record { depth = l; pattern = p; records = [] }

  pub begun : (j : ℕ) → first ≤ j → j < first + run → begins g l p j ≡ true
  unfolding start_of
  begun j a z = range_begins g page j a (rw end_start z)

  -- and no other
  not_begun : (j : ℕ) → ((first ≤ j) × (j < first + run) → ⊥) → begins g l p j ≡ false
  unfolding start_of
  not_begun j n = (not-eq-not {a = begins g l p j} {b = false}).0 (λ e. n (rw end_start at (begins_range g page j e)))

  pub below_begun : (j : ℕ) → j < first → begins g l p j ≡ false
  below_begun j a = not_begun j (λ h. omega (arith, h.0))

  pub above_begun : (j : ℕ) → first + run ≤ j → begins g l p j ≡ false
  above_begun j a = not_begun j (λ h. omega (arith, h.1))

  -- all of them are entries
  pub begun_end : l ≤ g → p < 2 ^ l → first + run ≤ 2 ^ g
  unfolding start_of
  begun_end a z = rw end_start at (end_le g page a z)
