-- The pseudo key: all that rests on its being FNV-1a of the call number. Its range, the range of an index, and that every entry
-- of a directory is some call's index. No other file of `laws` opens `pseudo_key`, `hashed` or `mixed`.
use Rattle.std.specs.Prelude.{ℕ, zero, suc, ◌+◌, ◌-◌, ◌^◌, ◌<◌, ◌≤◌, ◌*◌, ◌/◌, ◌%◌, ◌≡◌, refl, Bool, true, ◌&&◌, List, [], ◌∷◌, eqb}
use Rattle.std.proofs.Common.{sym, ap, ◌∙◌, arith, mod-lt, pow_pos, shl_lt, shr_lt, shr-shr, eqb-true}
use Rattle.std.proofs.Math.Logic.{by_cases}
use Rattle.std.proofs.Math.Decide.{dec_lt}
use Rattle.std.specs.Int.Bits.{bit_xor}
use Rattle.std.proofs.lemmas.Nat.{shl-shr}
use Rattle.spec.specs.Bytes.{two, four}
use Rattle.spec.specs.Job.{max_depth}
use Rattle.spec.specs.Key.{mixed, hashed, pseudo_key, first_bits, index, bit}
use Rattle.laws.specs.Tools.{and_left, and_right}

hashed-lt : (hash : ℕ) (bs : List ℕ) → hash < 2 ^ 32 → hashed hash bs < 2 ^ 32
unfolding hashed mixed
hashed-lt hash [] h = h
hashed-lt hash (b ∷ bs) h = hashed-lt (mixed hash b) bs (mod-lt (bit_xor b hash * 16777619) (pow_pos 32))

key-lt : (call : ℕ) → pseudo_key call < 2 ^ 32
unfolding pseudo_key
key-lt call = hashed-lt 2166136261 (four call) (omega arith)

pub first_bits-lt : (d key : ℕ) → d ≤ 32 → key < 2 ^ 32 → first_bits d key < 2 ^ d
unfolding first_bits
first_bits-lt d key h l = let e : d + (32 - d) ≡ 32 = omega arith in shr_lt d (32 - d) (rw e l)

pub index-lt : (d call : ℕ) → d ≤ 32 → index d call < 2 ^ d
unfolding index
index-lt d call h = first_bits-lt d (pseudo_key call) h (key-lt call)

-- what is told of a key's bits is so of the call whose pseudo key it is
pub bits_of : (d call : ℕ) {key i : ℕ} → i ≡ first_bits d key → key ≡ pseudo_key call → i ≡ index d call
unfolding index
bits_of d call h e = h ∙ ap (first_bits d) e

pub bit_of : (d call : ℕ) {key : ℕ} {v : Bool} → v ≡ eqb (first_bits (suc d) key % 2) 1 → key ≡ pseudo_key call → v ≡ bit d call
unfolding bit
bit_of d call h e = h ∙ ap (λ i. eqb (i % 2) 1) (bits_of (suc d) call refl e)

-- a test that holds of all numbers below n
all_below : (ℕ → Bool) → ℕ → Bool
all_below f zero = true
all_below f (suc n) = f n && all_below f n

below : (f : ℕ → Bool) (n k : ℕ) → all_below f n ≡ true → k < n → f k ≡ true
unfolding all_below
below f zero k t h = absurd (omega arith)
below f (suc n) k t h =
    by_cases (dec_lt k n) (λ l. below f n k (and_right (f n) _ t) l) (λ l. let e : n ≡ k = omega arith in rw e at (and_left (f n) _ t))

-- A call whose pseudo key begins with the eight bits of e. Its three low bytes are 0, and after them the hash is 4ab0f7b7. The highest byte takes
-- the place of b7 (183): times 2^24 + 403 it becomes the highest byte of the key, and 403 times 4ab0f7.. adds 148, whatever stands in that place.
caller : ℕ → ℕ
caller e = bit_xor 183 ((e + 108) % 256) * 2 ^ 24

called : ℕ → Bool
called e = eqb (index max_depth (caller e)) e

all_called : all_below called 256 ≡ true
unfolding index first_bits pseudo_key hashed mixed four two all_below called caller
all_called = refl

deepest_onto : (e : ℕ) → e < 2 ^ max_depth → (call : ℕ) × (index max_depth call ≡ e)
unfolding called
deepest_onto e h = (caller e, eqb-true _ _ (below called 256 e all_called h))

-- fewer bits are the front of more
pub first_bits_prefix : (l g key : ℕ) → l ≤ g → g ≤ 32 → first_bits g key / 2 ^ (g - l) ≡ first_bits l key
unfolding first_bits
first_bits_prefix l g key h w = shr-shr key (32 - g) (g - l) ∙ ap (λ n. key / 2 ^ n) (omega arith)

-- (of up to `max_depth` bits: calls may share a pseudo key, so there are numbers of 32 bits that are no call's)
pub index_onto : (d e : ℕ) → d ≤ max_depth → e < 2 ^ d → (call : ℕ) × (index d call ≡ e)
unfolding index
index_onto d e h l =
    let z : d + (max_depth - d) ≡ max_depth = omega arith in
    let w = deepest_onto (e * 2 ^ (max_depth - d)) (rw z at (shl_lt d (max_depth - d) l)) in
    let front = first_bits_prefix d max_depth (pseudo_key w.0) h (omega arith) in
    (w.0, sym front ∙ ap (λ y. y / 2 ^ (max_depth - d)) w.1 ∙ shl-shr e (max_depth - d))
