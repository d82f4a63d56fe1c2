-- Pieces of a byte string: what is read of some bytes and written again is those bytes, and pieces that stand one behind another are one piece.
use Rattle.std.specs.Prelude.{ℕ, suc, ◌+◌, ◌<◌, ◌≤◌, ◌≡◌, List, [], ◌∷◌, ◌++◌, true, length, get_or, take, drop, replicate}
use Rattle.std.proofs.Common.{sym, ap₂, ◌∙◌, arith, add-one, take-add, take_all, drop-drop, ext_get_or}
use Rattle.std.proofs.lemmas.List.{length-replicate, get_or-replicate}
use Rattle.std.proofs.Math.Seq.{drop-cons}
use Rattle.spec.specs.Bytes.{AreBytes, byte, word, long, two, four}
use Rattle.laws.specs.Codec.Numbers.{byte-lt, word_lt, two_read, four_read}
use Rattle.laws.specs.Codec.Zeros.{zeros, zeros_byte}

-- x is the n bytes of b from place p on
pub record Piece (b x : List ℕ) (p n : ℕ) : Type 0 where
  pub same : x ≡ take n (drop p b)

infixl 60 ◌then◌
-- the first n bytes, and those that follow
pub ◌then◌ : {b x y : List ℕ} {n m : ℕ} → Piece b x 0 n → Piece b y n m → Piece b (x ++ y) 0 (n + m)
◌then◌ {b} {n = n} {m = m} s t = record { same = ap₂ ◌++◌ s.same t.same ∙ sym (take-add n m b) }

pub behind : {b x y : List ℕ} {p n m : ℕ} → Piece b x p n → Piece b y (p + n) m → Piece b (x ++ y) p (n + m)
behind {b} {p = p} {n = n} {m = m} s t = record { same = ap₂ ◌++◌ s.same t.same ∙ rw (take-add n m (drop p b), drop-drop n p b) }

-- all bytes there are
pub all_of : {b x : List ℕ} {n : ℕ} → Piece b x 0 n → length b ≡ n → x ≡ b
all_of {b} {n = n} s l = s.same ∙ take_all n b (omega arith)

module _ (b : List ℕ) where
  pub two_bytes : (p : ℕ) → p + 2 ≤ length b → Piece b (byte b p ∷ byte b (p + 1) ∷ []) p 2
  unfolding byte
  two_bytes p l = record { same = rw (add-one, drop-cons b p 0 (omega arith), drop-cons b (suc p) 0 (omega arith)) }

  pub two_word : AreBytes b → (p : ℕ) → p + 2 ≤ length b → Piece b (two (word b p)) p 2
  two_word h p l = rw (two_read b p (byte-lt b h p) (byte-lt b h (p + 1))) (two_bytes p l)

  pub four_long : AreBytes b → (p : ℕ) → p + 4 ≤ length b → Piece b (four (long b p)) p 4
  four_long h p l = rw (four_read b p (word_lt b h p)) (behind (two_word h p (omega arith)) (two_word h (p + 2) (omega arith)))

-- zeros
pub zeros_piece : (b : List ℕ) (p n : ℕ) → length (drop p b) ≡ n → zeros (drop p b) ≡ true → Piece b (replicate n 0) p n
unfolding byte
zeros_piece b p n l e = record { same = ext_get_or 0 (replicate n 0) (drop p b) (length-replicate n 0 ∙ sym l) zero_at ∙ sym (take_all n (drop p b) (omega arith)) }
  where
    zero_at : (i : ℕ) → i < length (replicate {A = ℕ} n 0) → get_or (replicate n 0) i 0 ≡ get_or (drop p b) i 0
    zero_at i u = get_or-replicate n i 0 0 (rw length-replicate at u) ∙ sym (zeros_byte (drop p b) e i)
