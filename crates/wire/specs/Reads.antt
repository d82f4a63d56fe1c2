-- What is read after bytes were written over others: at the place, and elsewhere.
use Rattle.std.specs.Prelude.{◌≡◌, refl, ◌⊎◌, List, [], ◌∷◌, ℕ, zero, suc, ◌+◌, ◌≤◌, ◌<◌, length, set}
use Rattle.std.proofs.Common.{◌∙◌, inl, inr, add_assoc, add-one, arith, length-set, get_or-set_same, get_or-set_other}
use Rattle.std.proofs.Math.Numerals.{add-two, add-three}
use Rattle.std.proofs.lemmas.List.{set-get_or}
use Rattle.spec.specs.Bytes.{byte, word, long, two, four}
use Rattle.laws.specs.Codec.Numbers.{word_two, word_small, two_read, four_read}
use Rattle.wire.specs.Over.{over}

-- place k lies before n bytes at `at`, or behind them
abbrev pub Apart : ℕ → ℕ → ℕ → ℕ → Type 0
Apart k m at n = (k + m ≤ at) ⊎ (at + n ≤ k)

-- ---- bytes

pub byte_over_other : (x s : List ℕ) (at k : ℕ) → Apart k 1 at (length x) → byte (over s at x) k ≡ byte s k
unfolding over byte
byte_over_other [] s at k h = refl
byte_over_other (v ∷ x) s at k (inl h) =
    byte_over_other x (set s at v) (suc at) k (inl (omega arith)) ∙ get_or-set_other s at k v 0 (λ e. omega arith)
byte_over_other (v ∷ x) s at k (inr h) =
    byte_over_other x (set s at v) (suc at) k (inr (omega arith)) ∙ get_or-set_other s at k v 0 (λ e. omega arith)

pub byte_over : (x s : List ℕ) (at j : ℕ) → j < length x → at + length x ≤ length s → byte (over s at x) (at + j) ≡ byte x j
unfolding over byte
byte_over [] s at j h f = absurd (omega arith)
byte_over (v ∷ x) s at zero h f =
    let e : at + 0 ≡ at = omega arith in
    rw e (byte_over_other x (set s at v) (suc at) at (inl (omega arith)) ∙ get_or-set_same s at v 0 (omega arith))
byte_over (v ∷ x) s at (suc j) h f =
    let e : at + suc j ≡ suc at + j = omega arith in
    rw e (byte_over x (set s at v) (suc at) j (omega arith) (rw length-set (omega arith)))

-- ---- numbers of 2 and 4 bytes: equal bytes give equal numbers, so one law a size carries every law on bytes over

pub word_same : (s t : List ℕ) (p q : ℕ) → ((j : ℕ) → j < 2 → byte s (p + j) ≡ byte t (q + j)) → word s p ≡ word t q
unfolding word
word_same s t p q h =
    let a : byte s p ≡ byte t q = let e : p + 0 ≡ p = omega arith in let f : q + 0 ≡ q = omega arith in rw (e, f) at (h 0 (omega arith)) in
    rw (a, h 1 (omega arith))

pub long_same : (s t : List ℕ) (p q : ℕ) → ((j : ℕ) → j < 4 → byte s (p + j) ≡ byte t (q + j)) → long s p ≡ long t q
unfolding long
long_same s t p q h =
    let later : (j : ℕ) → j < 2 → byte s (p + 2 + j) ≡ byte t (q + 2 + j) = λ j k.
    let e : p + 2 + j ≡ p + (2 + j) = omega arith in
    let f : q + 2 + j ≡ q + (2 + j) = omega arith in
    rw (e, f) (h (2 + j) (omega arith))
    in
    rw (word_same s t p q (λ j k. h j (omega arith)), word_same s t (p + 2) (q + 2) later)

-- elsewhere
pub near : (k at n m j : ℕ) → Apart k m at n → j < m → Apart (k + j) 1 at n
near k at n m j (inl h) l = inl (omega arith)
near k at n m j (inr h) l = inr (omega arith)

pub word_over_other : (x s : List ℕ) (at k : ℕ) → Apart k 2 at (length x) → word (over s at x) k ≡ word s k
word_over_other x s at k h = word_same (over s at x) s k k (λ j l. byte_over_other x s at (k + j) (near k at (length x) 2 j h l))

pub long_over_other : (x s : List ℕ) (at k : ℕ) → Apart k 4 at (length x) → long (over s at x) k ≡ long s k
long_over_other x s at k h = long_same (over s at x) s k k (λ j l. byte_over_other x s at (k + j) (near k at (length x) 4 j h l))

-- at the place: the number of the bytes written
pub word_over : (x s : List ℕ) (at j : ℕ) → j + 2 ≤ length x → at + length x ≤ length s → word (over s at x) (at + j) ≡ word x j
word_over x s at j h f = word_same (over s at x) x (at + j) j (λ k l. rw (add_assoc at j k) (byte_over x s at (j + k) (omega arith) f))

-- a number as bytes, read again
pub word_put : (s : List ℕ) (at v : ℕ) → at + 2 ≤ length s → v < 65536 → word (over s at (two v)) at ≡ v
unfolding two
word_put s at v f h =
    let e : at + 0 ≡ at = omega arith in
    rw e at (word_over (two v) s at 0 (omega arith) f) ∙ word_two v [] h

-- ---- bytes written where they stand change nothing

-- this is where a byte's bound is used: the bytes of the number that stands at a place are the bytes there
pub over_long : (s : List ℕ) (at : ℕ) → ((k : ℕ) → byte s k < 256) → over s at (four (long s at)) ≡ s
unfolding over byte
over_long s at b =
    let e : at + 2 + 1 ≡ at + 3 = omega arith in
    rw (
      four_read s at (word_small s at (b at) (b (at + 1))),
      two_read s at (b at) (b (at + 1)),
      two_read s (at + 2) (b (at + 2)) (b (at + 2 + 1)),
      e,
      add-one,
      add-two,
      add-three,
      set-get_or s at 0,
      set-get_or s (suc at) 0,
      set-get_or s (suc (suc at)) 0,
      set-get_or s (suc (suc (suc at))) 0,
    )
