-- "The job, byte by byte": byte strings and the numbers in them. A byte string is a list of numbers.
use Rattle.std.specs.Prelude.{ℕ, zero, suc, ◌+◌, ◌*◌, ◌/◌, ◌%◌, ◌<◌, List, [], ◌∷◌, ◌++◌, get_or, take, drop}
use Prim.Native.Char.{code}
use Prim.Native.String.{String, [] as empty, ◌∷◌ as ◌then◌}
use Rattle.spec.specs.Basics.{Each}

-- each number of a byte string is a byte
abbrev pub AreBytes : List ℕ → Type 0
AreBytes b = Each (λ x. x < 256) b

-- "Numbers are little-endian": the number of 1, 2 or 4 bytes at place p. Past the end every byte reads 0
unfoldable pub byte : List ℕ → ℕ → ℕ
byte b p = get_or b p 0

unfoldable pub word : List ℕ → ℕ → ℕ
word b p = byte b p + 256 * byte b (p + 1)

unfoldable pub long : List ℕ → ℕ → ℕ
long b p = word b p + 65536 * word b (p + 2)

-- a number as 2 and as 4 bytes
unfoldable pub two : ℕ → List ℕ
two n = n % 256 ∷ n / 256 % 256 ∷ []

unfoldable pub four : ℕ → List ℕ
four n = two (n % 65536) ++ two (n / 65536)

-- n parts of `size` bytes each, one behind another
unfoldable pub parts : ℕ → ℕ → List ℕ → List (List ℕ)
parts zero size b = []
parts (suc n) size b = take size b ∷ parts n size (drop size b)

-- the characters of a text, as bytes
unfoldable pub text : String → List ℕ
text empty = []
text (x then xs) = code x ∷ text xs
