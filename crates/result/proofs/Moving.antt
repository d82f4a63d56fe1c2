-- A line goes to its place among n lines: the later ones have been moved up, from the last down to number j.
use mathlib.Core.Path.{◌≡◌, refl, sym, ap, ◌∙◌}
use mathlib.Core.Logic.{inl}
use mathlib.Core.List.{List}
use Prim.Native.Nat.{ℕ, suc, ◌+◌, ◌*◌, ◌≤◌, ◌<◌}
use native.Mathlib.Omega.{arith}
use lib.ListN.{length, get_or, drop, drop_of_length-le}
use lib.Seq.{drop-cons}
use borrow.Author.Tests.{le-leb, lt-leb}
use Rattle.spec.specs.Basics.{each}
use Rattle.spec.specs.Bytes.{word}
use Rattle.spec.specs.Result.{Line, line_size, line_bytes}
use Rattle.laws.specs.Tools.{if-true, if-false}
use Rattle.laws.specs.Codec.Sizes.{length_line}
use Rattle.wire.specs.Over.{over}
use Rattle.wire.specs.OverLaws.{length_over, over_none}
use Rattle.wire.specs.Reads.{word_over_other}
use Rattle.wire.specs.Joined.{over_before}
use Rattle.result.specs.Lines.{line, seat, line_in, lines_in, with_line}
use Rattle.result.specs.LineLaws.{lines_count, lines_read}

pub record Moving (s₀ : List ℕ) (at n t j : ℕ) (s : List ℕ) : Type 0 where
  pub few : j ≤ n
  pub kept : length s ≡ length s₀
  pub moved : s ≡ over s₀ (at + line_size * (j + 1)) (each line_bytes (drop j (lines_in s₀ at n)))
  pub seated : seat t (lines_in s₀ at n) n ≡ seat t (lines_in s₀ at n) j

pub start : (s : List ℕ) (at n t : ℕ) → Moving s at n t n s
unfolding each
start s at n t =
    let c = lines_count s at n in
    record {
      few = omega arith;
      kept = refl;
      moved = rw (drop_of_length-le (lines_in s at n) {i = n} (omega arith)) (sym (over_none s (at + 4 * (n + 1))));
      seated = refl;
    }

-- line number k, which stands at place p, is looked at: the new line goes behind it, or it moves up too
module _ {s₀ s : List ℕ} {at n t j : ℕ} (k p : ℕ) (e : j ≡ k + 1) (f : p ≡ at + line_size * k) (m : Moving s₀ at n t j s) where
  same : line_in s p ≡ line_in s₀ p
  unfolding line_in
  same =
      let x : List ℕ = each line_bytes (drop j (lines_in s₀ at n)) in
      rw (m.moved, word_over_other x s₀ (at + 4 * (j + 1)) p (inl (omega arith)), word_over_other x s₀ (at + 4 * (j + 1)) (p + 2) (inl (omega arith)))

  stands : get_or (lines_in s₀ at n) k (line 0 0) ≡ line_in s p
  stands = lines_read s₀ at n k (line 0 0) (omega (arith, m.few)) ∙ rw (← f) (sym same)

  next : j ≡ suc k
  next = omega arith

  pub end_behind : (i : ℕ) → word s p ≤ t → over s (p + 4) (line_bytes (line t i)) ≡ with_line s₀ at n (line t i)
  unfolding with_line seat each line_in
  end_behind i h =
      let l = length_line (line t i) in
      let q : seat t (lines_in s₀ at n) n ≡ j = m.seated ∙ rw (next, stands) (if-true _ _ (le-leb _ _ h)) in
      let z : p + 4 ≡ at + 4 * j = omega arith in
      rw (q, m.moved, z)
      (over_before s₀ (line_bytes (line t i)) (each line_bytes (drop j (lines_in s₀ at n))) (at + 4 * j) (at + 4 * (j + 1)) (omega arith))

  pub step : {u : List ℕ} (v i : ℕ) → v ≡ word s p → i ≡ word s (p + 2) → u ≡ over s (p + 4) (line_bytes (line v i)) → t < v → Moving s₀ at n t k u
  unfolding seat each line_in
  step {u} v i x y w h =
      let L : List Line = lines_in s₀ at n in
      let c = lines_count s₀ at n in
      let l = length_line (line v i) in
      let z : p + 4 ≡ at + 4 * (k + 1) = omega arith in
      let g : get_or L k (line 0 0) ≡ line v i = rw (x, y) stands in
      record {
        few = omega (arith, m.few);
        kept = ap length w ∙ length_over s (p + 4) (line_bytes (line v i)) ∙ m.kept;
        moved =
            w
            ∙ rw (m.moved, z, drop-cons L k (line 0 0) (omega arith), g, next)
            (over_before s₀ (line_bytes (line v i)) (each line_bytes (drop (suc k) L)) (at + 4 * (k + 1)) (at + 4 * (suc k + 1)) (omega arith));
        seated = m.seated ∙ rw (next, g) (if-false _ _ (lt-leb _ _ h));
      }

pub end_first : {s₀ s : List ℕ} {at n t : ℕ} (i : ℕ) → Moving s₀ at n t 0 s → over s at (line_bytes (line t i)) ≡ with_line s₀ at n (line t i)
unfolding with_line seat each
end_first {s₀} {s} {at} {n} {t} i m =
    let l = length_line (line t i) in
    let z : at + 4 * 0 ≡ at = omega arith in
    rw (m.seated, z, m.moved) (over_before s₀ (line_bytes (line t i)) (each line_bytes (lines_in s₀ at n)) at (at + 4 * (0 + 1)) (omega arith))
