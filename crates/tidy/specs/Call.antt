-- What a call of `tidy` comes to.
use Rattle.std.specs.Prelude.{ℕ, ◌≡◌, List, length, Option, None}
use Rattle.spec.specs.Outcome.{Outcome}
use Rattle.spec.specs.Basics.{or_else}
use Rattle.spec.specs.Decode.{file_of}
use Rattle.spec.specs.Check.{Fault, numbered, job_fault}
use Rattle.spec.specs.Tidy.{ops_present, wrong_depth, small_out, tidy_fault, tidy_outcome, tidy_buffer}
use Rattle.spec.specs.Tidied.{Joined, Tidied}

-- The whole outcome for the bytes b and the wanted depth d, done or refused: what is answered, and the output buffer afterwards, which was s;
-- of every accepted file, also where a depth is refused for a page left, that the pages left are what joins come to; and where it is done, all
-- that is claimed of a tidied file
pub record Settled (b : List ℕ) (d : ℕ) (s t : List ℕ) (r : Outcome) : Type 0 where
  pub answer : r ≡ tidy_outcome (length s) d b
  pub output : t ≡ tidy_buffer d b s
  pub joined : job_fault b ≡ None → Joined (file_of b)
  pub tidied : tidy_fault (length s) d b ≡ None → Tidied d b

-- what is refused of an accepted file: 19 and 11; and before them 18
abbrev pub output_fault : ℕ → ℕ → List ℕ → Option Fault
output_fault room d b = or_else (numbered 19 (wrong_depth d b)) (numbered 11 (small_out room d b))

abbrev pub file_fault : ℕ → ℕ → List ℕ → Option Fault
file_fault room d b = or_else (numbered 18 (ops_present b)) (output_fault room d b)
