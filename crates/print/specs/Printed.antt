-- What printing a job comes to: the text in the lent buffer, or nothing where the buffer is too short for every text.
use Rattle.std.specs.Prelude.{ℕ, ◌<◌, ◌≤◌, ◌≡◌, List, ◌++◌, length, drop, Result, Ok, Err}
use Rattle.spec.specs.Check.{Lent, first_fault}
use Rattle.spec.specs.Outcome.{buffer_after, work_after}
use Rattle.spec.specs.Report.{printed_by}
use Rattle.print.specs.declared.NoRoom.{NoRoom}

-- No text is longer: a job line, 256 lines each for operations, log and pages.
abbrev pub text_size : ℕ
text_size = 85089

-- the text x stands first in the buffer, which was s, and has n bytes; the bytes behind it keep their values
pub record Stands (x s t : List ℕ) (n : ℕ) : Type 0 where
  pub count : n ≡ length x
  pub bytes : t ≡ x ++ drop n s

-- what is lent to the run: the result buffer s, a table of 256 rows, and the working memory w
abbrev pub lent_here : List ℕ → List ℕ → Lent
lent_here s w = record { output = length s; rows = 256; work = length w }

-- The whole outcome of printing the bytes b, with the result buffer, the working memory and the text's buffer before (s, w, o) and after (t, u, p):
-- the text tells the job's first fault, or its run where it has none, and the run leaves buffer and memory; or there was no room for every text, and
-- nothing is run or written
abbrev pub Prints : List ℕ → List ℕ → List ℕ → List ℕ → List ℕ → List ℕ → List ℕ → Result ℕ NoRoom → Type 0
Prints b s t w u o p (Ok n) =
    (text_size ≤ length o)
    × Stands (printed_by (first_fault (lent_here s w) b) b) o p n
    × (t ≡ buffer_after (lent_here s w) b s)
    × (u ≡ work_after (lent_here s w) b w)
Prints b s t w u o p (Err e) = (length o < text_size) × (p ≡ o) × (t ≡ s) × (u ≡ w)
