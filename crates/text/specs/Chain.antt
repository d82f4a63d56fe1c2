-- Bytes that are written piece by piece (`Wrote`, which `Added` says of a text): those so far and one piece more, and the room that is left.
use Rattle.std.proofs.Common.{sym, append_assoc, arith}
use Rattle.std.specs.Prelude.{List, ◌++◌, ℕ, ◌+◌, ◌≤◌, length}
use Rattle.wire.specs.Wrote.{Wrote}
use Rattle.wire.specs.WroteLaws.{then, same, kept}

-- most pieces are a word with a number behind it. This groups them as the definitions of the lines do
pub also
    : {k l at b r : ℕ} {s x t u : List ℕ} (y z : List ℕ)
    → Wrote k s at x t b
    → Wrote l t b (y ++ z) u r
    → Wrote (k + l) s at (x ++ y ++ z) u r
also {x = x} y z p q = same (sym (append_assoc x y z)) (then p q)

-- behind what was written there is room for m bytes more
pub room : {k at r : ℕ} {s x t : List ℕ} (m : ℕ) → Wrote k s at x t r → at + (k + m) ≤ length s → r + m ≤ length t
room m w h = let e = kept w in omega (arith, w.near)
