-- A part of a slice, `take n (drop a s)`: how it comes back when it was lent, and what a write makes of it. (What is read of it: laws' Codec/Parts.)
use Rattle.std.specs.Prelude.{◌≡◌, List, ◌++◌, ℕ, ◌+◌, ◌-◌, ◌≤◌, ◌<◌, length, take, drop}
use Rattle.std.proofs.Common.{sym, ◌∙◌, add_assoc, arith, length-drop, length-take-le, drop-drop, ext_get_or}
use Rattle.spec.specs.Bytes.{byte}
use Rattle.laws.specs.Codec.Parts.{byte_in}
use Rattle.wire.specs.Over.{over}
use Rattle.wire.specs.OverLaws.{length_over, over_parts}
use Rattle.wire.specs.Reads.{byte_over}

pub length_part : (s : List ℕ) (a n : ℕ) → a + n ≤ length s → length (take n (drop a s)) ≡ n
length_part s a n h = length-take-le n (drop a s) (omega (arith, length-drop a s))

-- a part that was lent comes back, with other bytes
pub over_part : (s x : List ℕ) (a n : ℕ) → length x ≡ n → a + n ≤ length s → take a s ++ (x ++ drop n (drop a s)) ≡ over s a x
over_part s x a n e h = rw (drop-drop n a s, ← e) (sym (over_parts x s a (omega arith)))

-- the same, by the ends of the part
pub over_between
    : (s x y : List ℕ) (a e : ℕ)
    → y ≡ x
    → length x ≡ e - a
    → a ≤ e
    → e ≤ length s
    → take a s ++ (y ++ drop (e - a) (drop a s)) ≡ over s a x
over_between s x y a e h l k m = rw h (over_part s x a (e - a) l (omega arith))

-- two lists of n bytes each are the same if their bytes are
pub same_bytes : (x y : List ℕ) (n : ℕ) → length x ≡ n → length y ≡ n → ((j : ℕ) → j < n → byte x j ≡ byte y j) → x ≡ y
unfolding byte
same_bytes x y n e f h = ext_get_or 0 x y (e ∙ sym f) (λ j l. h j (omega arith))

-- the part that was written
pub part_over : (s x : List ℕ) (a n : ℕ) → length x ≡ n → a + n ≤ length s → take n (drop a (over s a x)) ≡ x
part_over s x a n e h =
    same_bytes (take n (drop a (over s a x))) x n (length_part (over s a x) a n (rw (length_over s a x) h)) e
    (λ j l. byte_in n a (over s a x) j l ∙ byte_over x s a j (omega arith) (omega arith))

-- a part of a part
pub part-part : (s : List ℕ) (a m j n : ℕ) → j + n ≤ m → a + m ≤ length s → take n (drop j (take m (drop a s))) ≡ take n (drop (a + j) s)
part-part s a m j n h f =
    same_bytes (take n (drop j (take m (drop a s)))) (take n (drop (a + j) s)) n
    (length_part (take m (drop a s)) j n (omega (arith, length_part s a m f)))
    (length_part s (a + j) n (omega arith))
    (λ k l. byte_in n j (take m (drop a s)) k l ∙ byte_in m a s (j + k) (omega arith) ∙ rw (add_assoc a j k) at (sym (byte_in n (a + j) s k l)))

-- a part of the bytes that were written
pub part_inside
    : (s x : List ℕ) (a j n : ℕ)
    → j + n ≤ length x
    → a + length x ≤ length s
    → take n (drop (a + j) (over s a x)) ≡ take n (drop j x)
part_inside s x a j n h f =
    same_bytes (take n (drop (a + j) (over s a x))) (take n (drop j x)) n
    (length_part (over s a x) (a + j) n (omega (arith, length_over s a x)))
    (length_part x j n h)
    (λ k l. byte_in n (a + j) (over s a x) k l ∙ rw (add_assoc a j k) (byte_over x s a (j + k) (omega arith) f) ∙ sym (byte_in n j x k l))
