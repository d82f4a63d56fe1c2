-- What reading the input answers, and what is printed of it.
use Rattle.std.specs.Prelude.{ℕ, suc, ◌≤◌, ◌≡◌, List, length, take, Option, IfSome, Result, IfOk}
use Rattle.std.specs.Io.KnownBytes.{Appends}
use Rattle.spec.specs.Report.{printed}
use Rattle.laws.specs.Codec.Longest.{longest}
use Rattle.chargelog.specs.declared.Failure.{Failure}

-- where no read failed, a number of bytes that the buffer has
abbrev pub Within : List ℕ → Result ℕ Failure → Type 0
Within t r = IfOk r (λ n. n ≤ length t)

-- the first bytes of an input whose bytes are known: as many as the buffer has, or all of them where it ends before
abbrev pub ReadsFirst : Option (List ℕ) → List ℕ → Result ℕ Failure → Type 0
ReadsFirst known t r = IfOk r (λ n. IfSome known (λ whole. take n t ≡ take (length t) whole))

-- the first n bytes of the buffer, which has as many, are what is printed for the bytes b; and for any input of which b is as much as is read
pub record Says (b t : List ℕ) (n : ℕ) : Type 0 where
  pub within : n ≤ length t
  pub counts : n ≡ length (take n t)
  pub text : take n t ≡ printed b
  pub input : (whole : List ℕ) → b ≡ take (suc longest) whole → take n t ≡ printed whole

-- what a writer holds, where that is known, grew by what is printed for any input of which b is as much as is read
abbrev pub Shows : List ℕ → Option (List ℕ) → Option (List ℕ) → Type 0
Shows b old new = (whole : List ℕ) → b ≡ take (suc longest) whole → Appends old new (printed whole)

-- what a writer holds, where that is known, grew by what is printed for the whole input, where its bytes are known
abbrev pub Answers : Option (List ℕ) → Option (List ℕ) → Option (List ℕ) → Type 0
Answers known old new = IfSome known (λ whole. Appends old new (printed whole))
