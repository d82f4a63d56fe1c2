-- The piece that a split leaves in the old page: where its entries end.
use mathlib.Core.Path.{◌≡◌}
use mathlib.Core.List.{List, []}
use Prim.Native.Nat.{ℕ, zero, suc, ◌+◌, ◌-◌, ◌*◌, ◌^◌, ◌≤◌, ◌<◌}
use native.Mathlib.Nat.{pow-suc}
use native.Mathlib.Omega.{arith}
use lib.Pow.{pow_mono}
use Rattle.spec.specs.declared.Op.{Op}
use Rattle.spec.specs.Key.{index}
use Rattle.spec.specs.Split.{digit, split_count}
use Rattle.spec.specs.Turn.{rec_of}
use Rattle.laws.specs.Tools.{if_case}
use Rattle.laws.specs.Key.{index-lt}
use Rattle.laws.specs.Turns.Interval.{end_of, end_le}
use Rattle.pieces.specs.declared.Piece.{Piece}
use Rattle.pieces.specs.Piece.{kept_piece, own_piece, side_piece, cut}
use Rattle.pieces.specs.Parts.{grow-old}
use Rattle.memory.specs.declared.Shape.{Shape}
use Rattle.memory.specs.Memory.{page_in}
use Rattle.turn.specs.Steps.{plan, behind}
use Rattle.turn.specs.Safe.{Planned}
use Rattle.turn.proofs.Plans.{plan_end}

-- no deeper than e, with a pattern of as many bits
record Bounded (e : ℕ) (q : Piece) : Type 0 where
  depth : q.depth ≤ e
  pattern : q.pattern < 2 ^ q.depth

double : (d k : ℕ) → k < 2 ^ d → 2 * k + 0 < 2 ^ suc d
double d k h = omega (arith, pow-suc 2 d)

kept_bounded : (n d call : ℕ) → d + n ≤ 32 → Bounded (d + n) (kept_piece n d call)
unfolding kept_piece own_piece side_piece digit
kept_bounded zero d call h = record { depth = omega arith; pattern = index-lt d call (omega arith) }
kept_bounded (suc n) d call h =
    let e : suc d + n ≡ d + suc n = omega arith in
    if_case (Bounded (d + suc n)) (λ u. record { depth = omega arith; pattern = double d (index d call) (index-lt d call (omega arith)) })
    (λ u. rw e at (kept_bounded n (suc d) call (omega arith)))

-- the entries of a pattern end within the directory
behind_most : (g d p : ℕ) → d ≤ g → p < 2 ^ d → (p + 1) * 2 ^ (g - d) ≤ 2 ^ g
unfolding end_of
behind_most g d p h k = end_le g (record { depth = d; pattern = p; records = [] }) h k

-- the piece q that the splits for the insert leave in page x, whose entries end within a directory of 8 bits
pub record Left (sh : Shape) (op : Op) (w : List ℕ) (x : ℕ) (q : Piece) : Type 0 where
  pub depth : q.depth ≤ sh.depth
  pub pattern : q.pattern < 256
  pub ends : (q.pattern + 1) * 2 ^ (sh.depth - q.depth) ≤ 256
  pub first : (q.pattern + 1) * 2 ^ (sh.depth - q.depth) ≡ behind sh.depth (plan sh op w x).old

module _ {sh : Shape} {op : Op} {w : List ℕ} {x : ℕ} (o : Planned sh op w x) where
  abbrev n : ℕ
  n = split_count (page_in sh.capacity w x) op.call

  abbrev d : ℕ
  d = (page_in sh.capacity w x).depth

  plan_old : (plan sh op w x).old ≡ cut (page_in sh.capacity w x) (rec_of op) (kept_piece n d op.call)
  unfolding plan
  plan_old = grow-old o.splits sh.depth (omega (arith, o.within))

  left_own : sh.depth ≤ 8 → Left sh op w x (kept_piece n d op.call)
  unfolding behind cut
  left_own h =
      let q = kept_piece n d op.call in
      let b = kept_bounded n d op.call (omega (arith, plan_end o)) in
      let deep : q.depth ≤ sh.depth = omega (arith, b.depth, plan_end o) in
      let few : q.depth ≤ 8 = omega arith in
      let most : 2 ^ q.depth ≤ 2 ^ 8 = pow_mono few in
      let all : 2 ^ sh.depth ≤ 2 ^ 8 = pow_mono h in
      record {
        depth = deep;
        pattern = omega (arith, b.pattern);
        ends = omega (arith, behind_most sh.depth q.depth q.pattern deep b.pattern);
        first = rw plan_old;
      }

  pub left_piece
      : {m e : ℕ} {q : Piece}
      → sh.depth ≤ 8
      → m ≡ n
      → e ≡ d
      → q ≡ kept_piece m e op.call
      → Left sh op w x q
  left_piece h count deep made = rw (made, count, deep) (left_own h)
