-- Lines of the log as bytes: what is read where they stand.
use Rattle.std.specs.Prelude.{◌≡◌, refl, List, [], ◌∷◌, ◌++◌, ℕ, zero, suc, ◌+◌, ◌*◌, ◌≤◌, ◌<◌, length, get_or}
use Rattle.std.proofs.Common.{sym, ap, ap₂, ◌∙◌, arith}
use Rattle.spec.specs.Basics.{each, Each}
use Rattle.spec.specs.Bytes.{byte, word, two}
use Rattle.spec.specs.Result.{Line, line_size, line_bytes}
use Rattle.laws.specs.Tools.{first, rest}
use Rattle.laws.specs.Codec.Numbers.{word_two}
use Rattle.laws.specs.Codec.Sizes.{length_line, length-lines}
use Rattle.wire.specs.Over.{over}
use Rattle.wire.specs.OverLaws.{length_over, over-over}
use Rattle.wire.specs.Reads.{word_over}
use Rattle.result.specs.Lines.{line_in, lines_in}

pub lines_count : (s : List ℕ) (p n : ℕ) → length (lines_in s p n) ≡ n
unfolding lines_in
lines_count s p zero = refl
lines_count s p (suc n) = ap suc (lines_count s (p + 4) n)

pub lines_read : (s : List ℕ) (p n j : ℕ) (d : Line) → j < n → get_or (lines_in s p n) j d ≡ line_in s (p + line_size * j)
unfolding lines_in
lines_read s p zero j d h = absurd (omega arith)
lines_read s p (suc n) zero d h = let e : p + 4 * 0 ≡ p = omega arith in rw e
lines_read s p (suc n) (suc j) d h =
    let e : p + 4 * suc j ≡ p + 4 + 4 * j = omega arith in
    rw e (lines_read s (p + 4) n j d (omega arith))

-- a line whose numbers 2 bytes hold
pub record Small (l : Line) : Type 0 where
  pub moment : l.moment < 65536
  pub op : l.op < 65536

-- a line that was written, and what stands behind it
line_back : (s : List ℕ) (at : ℕ) (l : Line) (y : List ℕ) → Small l → at + (4 + length y) ≤ length s → line_in (over s at (line_bytes l ++ y)) at ≡ l
unfolding line_in line_bytes two word byte
line_back s at l y h f =
    let x = line_bytes l ++ y in
    let z : at + 0 ≡ at = omega arith in
    let a : word (over s at x) at ≡ l.moment
    = rw z at (word_over x s at 0 (omega arith) (omega arith)) ∙ word_two l.moment (two l.op ++ y) h.moment in
    let b : word (over s at x) (at + 2) ≡ l.op = word_over x s at 2 (omega arith) (omega arith) ∙ word_two l.op y h.op in
    rw (a, b)

pub lines_back
    : (ls : List Line) (s : List ℕ) (at : ℕ)
    → Each Small ls
    → at + line_size * length ls ≤ length s
    → lines_in (over s at (each line_bytes ls)) at (length ls) ≡ ls
unfolding lines_in each
lines_back [] s at h f = refl
lines_back (l ∷ ls) s at h f =
    let u : List ℕ = over s at (line_bytes l) in
    let n = length-lines ls in
    let e : over u (at + 4) (each line_bytes ls) ≡ over s at (line_bytes l ++ each line_bytes ls)
    = over-over (line_bytes l) (each line_bytes ls) s at (at + 4) (rw length_line) in
    ap₂ ◌∷◌ (line_back s at l (each line_bytes ls) (first h) (omega arith))
    (ap (λ (t : List ℕ). lines_in t (at + 4) (length ls)) (sym e) ∙ lines_back ls u (at + 4) (rest h) (rw length_over (omega arith)))
