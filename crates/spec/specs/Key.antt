-- "The file": pseudo keys, the bits that they begin with, and directory indices.
-- Of the pseudo key itself no more is used than that it has 32 bits and that every entry is some call's index: two calls may share a pseudo key.
use Rattle.std.specs.Prelude.{ℕ, zero, suc, ◌-◌, ◌*◌, ◌/◌, ◌%◌, ◌^◌, Bool, List, [], ◌∷◌, eqb}
use Rattle.std.specs.Int.Bits.{bit_xor}
use Rattle.spec.specs.Basics.{if}
use Rattle.spec.specs.Bytes.{four}

-- "exclusive-or, then times 16777619 modulo 2^32": one byte of FNV-1a, 32 bits. (The byte first: `bit_xor` goes through the bits of its first number.)
unfoldable pub mixed : ℕ → ℕ → ℕ
mixed hash byte = bit_xor byte hash * 16777619 % 2 ^ 32

-- "for each of the .. bytes"
unfoldable pub hashed : ℕ → List ℕ → ℕ
hashed hash [] = hash
hashed hash (b ∷ bs) = hashed (mixed hash b) bs

-- "the pseudo key is FNV-1a, 32 bits, as published: start at 2166136261, for each of the four bytes, lowest first"
unfoldable pub pseudo_key : ℕ → ℕ
pseudo_key call = hashed 2166136261 (four call)

-- the first d bits of a pseudo key, read as a number
unfoldable pub first_bits : ℕ → ℕ → ℕ
first_bits d key = key / 2 ^ (32 - d)

-- "Entry j belongs to the calls whose first g pseudo-key bits, read as a number, are j": that j, at any depth
unfoldable pub index : ℕ → ℕ → ℕ
index d call = first_bits d (pseudo_key call)

-- bit number d of the call's pseudo key, from the top and from 0: the bit that a split of a page of depth d goes by
unfoldable pub bit : ℕ → ℕ → Bool
bit d call = eqb (index (suc d) call % 2) 1

-- "How many leading bits two pseudo keys share": the most, up to n, that both begin with
unfoldable pub shared : ℕ → ℕ → ℕ → ℕ
shared zero a b = 0
shared (suc n) a b = if (eqb (first_bits (suc n) a) (first_bits (suc n) b)) (suc n) (shared n a b)

-- a pattern of l bits begins entry j, which has g bits
unfoldable pub begins : ℕ → ℕ → ℕ → ℕ → Bool
begins g l pattern j = eqb (j / 2 ^ (g - l)) pattern
