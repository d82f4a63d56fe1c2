-- A job b whose turn list l stands behind it in the buffer, which was s, with two fields of its header written, p and q: what the buffer is then.
use mathlib.Core.Path.{◌≡◌, sym, ap, ◌∙◌}
use mathlib.Core.List.{List, ◌++◌, append_assoc}
use Prim.Native.Nat.{ℕ, ◌+◌, ◌-◌, ◌≤◌}
use native.Mathlib.Omega.{arith}
use lib.ListN.{length, take, drop, length-append}
use lib.Seq.{length-take-le, take-take, take-add, drop_at}
use Rattle.spec.specs.Job.{header_size, turn_count_at, total_at}
use Rattle.wire.specs.Over.{over}
use Rattle.wire.specs.OverLaws.{over-front, over_swap}
use Rattle.wire.specs.Joined.{over_before, anew}

module _ (b l s p q : List ℕ) (lb : header_size ≤ length b) (ls : length b + length l ≤ length s) (lp : length p ≡ 2) (lq : length q ≡ 4) where
  abbrev behind : List ℕ
  behind = l ++ drop (length b + length l) s

  stands : over (over s (length b) l) 0 b ≡ b ++ behind
  stands =
      over_before s b l 0 (length b) (omega arith)
      ∙ over-front (b ++ l) s (rw length-append ls)
      ∙ rw (length-append b l) (append_assoc b l _)

  pub fields
      : over (over (over (over s (length b) l) 0 b) turn_count_at p) total_at q
      ≡ (take turn_count_at b ++ p ++ take (total_at - (turn_count_at + 2)) (drop (turn_count_at + 2) b) ++ q ++ drop header_size b ++ l)
      ++ drop (length b + length l) s
  fields =
      ap (λ (t : List ℕ). over (over t turn_count_at p) total_at q) stands
      ∙ sym (over_swap p q (b ++ behind) turn_count_at total_at (omega arith))
      ∙ ap (λ (t : List ℕ). over t turn_count_at p) (anew b q behind total_at (omega arith))
      ∙ anew (take total_at b) p _ turn_count_at (omega (arith, length-take-le total_at b (omega arith)))
      ∙ rw (lp, lq, take-take turn_count_at total_at b (omega arith), middle) (simp append_assoc)
    where
      middle : drop 12 (take total_at b) ≡ take 16 (drop 12 b)
      middle =
          ap (drop 12) (take-add 12 16 b) ∙ drop_at (take 12 b) (take 16 (drop 12 b)) 12 (length-take-le 12 b (omega arith))
