-- Which new page an entry goes to, split by split: k splits are passed, and n are made of a page of depth d.
use mathlib.Core.Path.{◌≡◌, sym, ◌∙◌}
use mathlib.Core.Bool.{Bool, true, false, not, beq}
use Rattle.std.proofs.lemmas.Bool.{not-true, not-false}
use Prim.Native.Nat.{ℕ, suc, ◌+◌, ◌-◌, ◌≤◌, ◌<◌}
use native.Mathlib.Omega.{arith}
use Rattle.spec.specs.Basics.{if}
use Rattle.spec.specs.Key.{bit}
use Rattle.laws.specs.Tools.{if_case, if-true, if-false}
use Rattle.turn.specs.Steps.{entry_bit, last_one}

-- the next split: after it the entry's page is `last`
unfoldable pub next : ℕ → ℕ → ℕ → ℕ → ℕ → ℕ
next g e d k last = if (entry_bit g (d + k) e) (k + 1) last

pub next_le : (g e d k last : ℕ) → last ≤ k → next g e d k last ≤ k + 1
unfolding next
next_le g e d k last h = if_case (λ (r : ℕ). r ≤ k + 1) (λ u. omega arith) (λ u. omega arith)

pub last_none : (g call e n d k last : ℕ) → n ≤ k → last_one g call e (n - k) (d + k) (k + 1) last ≡ last
unfolding last_one
last_none g call e n d k last h =
    let z : n - k ≡ 0 = omega arith in
    rw z

module _ (g call e n d k last : ℕ) (h : k < n) where
  last_more
      : last_one g call e (n - k) (d + k) (k + 1) last
      ≡ if (beq (entry_bit g (d + k) e) (bit (d + k) call))
      (last_one g call e (n - (k + 1)) (d + (k + 1)) (k + 1 + 1) (next g e d k last))
      (next g e d k last)
  unfolding last_one next
  last_more =
      let z : n - k ≡ suc (n - (k + 1)) = omega arith in
      let y : suc (d + k) ≡ d + (k + 1) = omega arith in
      let x : suc (k + 1) ≡ k + 1 + 1 = omega arith in
      rw (z, y, x)

  -- the entry's bit is the call's: it is split on
  pub last_on
      : beq (entry_bit g (d + k) e) (bit (d + k) call) ≡ true
      → last_one g call e (n - k) (d + k) (k + 1) last
      ≡ last_one g call e (n - (k + 1)) (d + (k + 1)) (k + 1 + 1) (next g e d k last)
  last_on u = rw (last_more, if-true _ _ u)

  pub last_here
      : beq (entry_bit g (d + k) e) (bit (d + k) call) ≡ false
      → last_one g call e (n - k) (d + k) (k + 1) last ≡ next g e d k last
  last_here u = rw (last_more, if-false _ _ u)

-- the code's split: it has read the entry's bit, and the call's
module _ (g e d k last : ℕ) {one : Bool} {now : ℕ} (own : one ≡ entry_bit g (d + k) e) where
  pub picked_one : one ≡ true → now ≡ k + 1 → now ≡ next g e d k last
  unfolding next
  picked_one u p = p ∙ sym (if-true _ _ (sym own ∙ u))

  pub picked_none : one ≡ false → now ≡ last → now ≡ next g e d k last
  unfolding next
  picked_none u p = p ∙ sym (if-false _ _ (sym own ∙ u))

  module _ (call n : ℕ) {other : Bool} (call_bit : other ≡ bit (d + k) call) (h : k < n) (l : last ≤ k) (p : now ≡ next g e d k last) where
    pub stops : not (beq one other) ≡ true → (now ≡ last_one g call e (n - k) (d + k) (k + 1) last) × (now ≤ n)
    stops u =
        let apart : beq (entry_bit g (d + k) e) (bit (d + k) call) ≡ false = rw (← own, ← call_bit) (not-true _ u) in
        (p ∙ sym (last_here g call e n d k last h apart), omega (arith, next_le g e d k last l))

    pub goes_on
        : not (beq one other) ≡ false
        → (now ≤ k + 1) × (last_one g call e (n - k) (d + k) (k + 1) last ≡ last_one g call e (n - (k + 1)) (d + (k + 1)) (k + 1 + 1) now)
    goes_on u =
        let same : beq (entry_bit g (d + k) e) (bit (d + k) call) ≡ true = rw (← own, ← call_bit) (not-false _ u) in
        (omega (arith, next_le g e d k last l), rw p (last_on g call e n d k last h same))
