-- Laws of `Wrote`: nothing, one byte, one text behind another; the text by another name, a wider bound; the length is kept.
use Rattle.std.specs.Prelude.{◌≡◌, List, [], ◌∷◌, ◌++◌, ℕ, ◌+◌, ◌≤◌, length, set}
use Rattle.std.proofs.Common.{sym, ap, ◌∙◌, arith, length-append}
use Rattle.wire.specs.Wrote.{Wrote}
use Rattle.wire.specs.OverLaws.{over_none, over-one, over-over, length_over}

pub none : (s : List ℕ) (at : ℕ) → Wrote 0 s at [] s at
none s at = record { bytes = sym (over_none s at); stop = omega arith; near = omega arith }

pub one : (s : List ℕ) (at v : ℕ) → Wrote 1 s at (v ∷ []) (set s at v) (at + 1)
one s at v = record { bytes = sym (over-one s at v); stop = omega arith; near = omega arith }

pub then
    : {k l at b r : ℕ} {s x t y u : List ℕ}
    → Wrote k s at x t b
    → Wrote l t b y u r
    → Wrote (k + l) s at (x ++ y) u r
then {k} {l} {at} {b} {r} {s} {x} {t} {y} {u} p q =
    record {
      bytes = q.bytes ∙ rw p.bytes (over-over x y s at b p.stop);
      stop = rw length-append (omega (arith, p.stop, q.stop));
      near = omega (arith, p.near, q.near);
    }

pub same : {k at r : ℕ} {s x y t : List ℕ} → x ≡ y → Wrote k s at x t r → Wrote k s at y t r
same e p = rw e at p

pub wider : {k l at r : ℕ} {s x t : List ℕ} → k ≤ l → Wrote k s at x t r → Wrote l s at x t r
wider h p = record { bytes = p.bytes; stop = p.stop; near = omega (arith, p.near) }

pub kept : {k at r : ℕ} {s x t : List ℕ} → Wrote k s at x t r → length t ≡ length s
kept {at = at} {s = s} {x = x} p = ap length p.bytes ∙ length_over s at x
