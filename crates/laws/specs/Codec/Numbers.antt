-- Numbers in bytes: a number of 2 or 4 bytes that fits comes back, and what is read of bytes fits and is written as these bytes.
use Rattle.std.specs.Prelude.{ℕ, zero, suc, ◌+◌, ◌*◌, ◌/◌, ◌%◌, ◌<◌, ◌≤◌, ◌≡◌, List, [], ◌∷◌, ◌++◌, length, take, drop}
use Rattle.std.proofs.Common.{arith, add-zero, add_comm, mod-eq_of_lt}
use Rattle.std.proofs.Math.Nat.{add-mul-mod_self_left, mul-add-div, div-eq_of_lt}
use Rattle.spec.specs.Basics.{Each, end, next}
use Rattle.spec.specs.Bytes.{AreBytes, byte, word, long, two, four, parts}
use Rattle.laws.specs.Tools.{each_or}
use Rattle.laws.specs.Codec.Tools.{each_imp₂}
use Rattle.laws.specs.Codec.Parts.{parts-size}

-- a number that fits comes back
pub word_two : (n : ℕ) (post : List ℕ) → n < 65536 → word (two n ++ post) 0 ≡ n
unfolding word byte two
word_two n post l = omega arith

pub long_four : (n : ℕ) (post : List ℕ) → n < 4294967296 → long (four n ++ post) 0 ≡ n
unfolding long word byte four two
long_four n post l = omega arith

-- what is read of bytes fits
pub byte-lt : (b : List ℕ) → AreBytes b → (p : ℕ) → byte b p < 256
unfolding byte
byte-lt b h p = each_or b p 0 (omega arith) h

pub word_small : (b : List ℕ) (p : ℕ) → byte b p < 256 → byte b (p + 1) < 256 → word b p < 65536
unfolding word
word_small b p s t = omega arith

pub word_lt : (b : List ℕ) → AreBytes b → (p : ℕ) → word b p < 65536
word_lt b h p = word_small b p (byte-lt b h p) (byte-lt b h (p + 1))

pub long_lt : (b : List ℕ) → AreBytes b → (p : ℕ) → long b p < 4294967296
unfolding long
long_lt b h p = let s = word_lt b h p in let t = word_lt b h (p + 2) in omega arith

-- the digits of a number to the base m
pub low : (m a c : ℕ) → a < m → (a + m * c) % m ≡ a
low m a c h = rw add-mul-mod_self_left (mod-eq_of_lt h)

pub high : (m a c : ℕ) → a < m → (a + m * c) / m ≡ c
high m a c h = rw (add_comm, mul-add-div {m = m} (omega arith), div-eq_of_lt h, add-zero)

-- what is read of bytes is written as these bytes
pub two_read : (b : List ℕ) (p : ℕ) → byte b p < 256 → byte b (p + 1) < 256 → two (word b p) ≡ byte b p ∷ byte b (p + 1) ∷ []
unfolding two word
two_read b p s t = rw (low 256 (byte b p) (byte b (p + 1)) s, high 256 (byte b p) (byte b (p + 1)) s, mod-eq_of_lt t)

pub four_read : (b : List ℕ) (p : ℕ) → word b p < 65536 → four (long b p) ≡ two (word b p) ++ two (word b (p + 2))
unfolding four long
four_read b p s = rw (low 65536 (word b p) (word b (p + 2)) s, high 65536 (word b p) (word b (p + 2)) s)

-- the parts of bytes are bytes
take-bytes : (n : ℕ) (b : List ℕ) → AreBytes b → AreBytes (take n b)
take-bytes zero b h = end
take-bytes (suc n) [] end = end
take-bytes (suc n) (x ∷ b) (next h t) = next h (take-bytes n b t)

pub drop-bytes : (n : ℕ) (b : List ℕ) → AreBytes b → AreBytes (drop n b)
drop-bytes zero b h = h
drop-bytes (suc n) [] end = end
drop-bytes (suc n) (x ∷ b) (next h t) = drop-bytes n b t

pub parts-bytes : (n size : ℕ) (b : List ℕ) → AreBytes b → Each AreBytes (parts n size b)
unfolding parts
parts-bytes zero size b h = end
parts-bytes (suc n) size b h = next (take-bytes size b h) (parts-bytes n size (drop size b) (drop-bytes size b h))

-- a part of n bytes
pub record Whole (n : ℕ) (p : List ℕ) : Type 0 where
  pub size : length p ≡ n
  pub bytes : AreBytes p

pub parts_whole : (n size : ℕ) (b : List ℕ) → AreBytes b → size * n ≤ length b → Each (Whole size) (parts n size b)
parts_whole n size b h l = each_imp₂ (λ p s t. record { size = s; bytes = t }) (parts-size n size b l) (parts-bytes n size b h)
