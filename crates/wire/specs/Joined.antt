-- Fields written one behind another, and what is written a second time.
use Rattle.std.specs.Prelude.{◌≡◌, List, ◌++◌, ℕ, ◌+◌, ◌≤◌, length, take, drop}
use Rattle.std.proofs.Common.{sym, ap, ◌∙◌, arith, length-append}
use Rattle.std.proofs.lemmas.List.{take-append-le, drop-append-le}
use Rattle.wire.specs.Over.{over}
use Rattle.wire.specs.OverLaws.{over-over, over_swap, over_again, over_parts}

module _ {s₁ s₂ s₃ : List ℕ} (s x y z : List ℕ) (at b d : ℕ) where
  pub three
      : s₁ ≡ over s at x
      → s₂ ≡ over s₁ b y
      → s₃ ≡ over s₂ d z
      → b ≡ at + length x
      → d ≡ b + length y
      → s₃ ≡ over s at (x ++ y ++ z)
  three p q r e f =
      let two : s₂ ≡ over s at (x ++ y) = q ∙ rw p (over-over x y s at b e) in
      r ∙ rw two (over-over (x ++ y) z s at d (rw length-append (omega arith)))

  pub four
      : {s₄ : List ℕ} (v : List ℕ) (k : ℕ)
      → s₁ ≡ over s at x
      → s₂ ≡ over s₁ b y
      → s₃ ≡ over s₂ d z
      → s₄ ≡ over s₃ k v
      → b ≡ at + length x
      → d ≡ b + length y
      → k ≡ d + length z
      → s₄ ≡ over s at (x ++ y ++ z ++ v)
  four v k p q r u e f g =
      u ∙ rw (three p q r e f) (over-over (x ++ y ++ z) v s at k (rw (length-append, length-append) (omega arith)))

-- one thing before another
pub over_before : (s x y : List ℕ) (a b : ℕ) → b ≡ a + length x → over (over s b y) a x ≡ over s a (x ++ y)
over_before s x y a b e = over_swap x y s a b (omega arith) ∙ over-over x y s a b e

-- the end of what was written, written anew
pub renewed : (s x y z : List ℕ) (at b : ℕ) → b ≡ at + length x → length y ≤ length z → over (over s at (x ++ y)) b z ≡ over s at (x ++ z)
renewed s x y z at b e h =
    ap (λ (l : List ℕ). over l b z) (sym (over-over x y s at b e)) ∙ over_again y z (over s at x) b h ∙ over-over x z s at b e

-- some bytes of x, which stands in front, written anew
pub anew : (x y z : List ℕ) (at : ℕ) → at + length y ≤ length x → over (x ++ z) at y ≡ take at x ++ (y ++ (drop (at + length y) x ++ z))
anew x y z at l =
    over_parts y (x ++ z) at (rw length-append (omega arith))
    ∙ rw (take-append-le at x z (omega arith), drop-append-le (at + length y) x z l)
