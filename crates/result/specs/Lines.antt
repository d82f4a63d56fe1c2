-- The log is written operation by operation: the lines of the operations so far stand in order, and the next operation's line goes behind those
-- whose moment is no later than its own.
use Rattle.std.specs.Prelude.{◌≡◌, List, [], ◌∷◌, ◌++◌, ℕ, zero, suc, ◌+◌, ◌*◌, ◌≤◌, ◌<◌, leb, length, get_or, take, drop}
use Rattle.spec.specs.Basics.{if, each}
use Rattle.spec.specs.Bytes.{word}
use Rattle.spec.specs.Code.{not_yet}
use Rattle.spec.specs.State.{Row, gone}
use Rattle.spec.specs.Result.{Line, line_size, line_bytes, lines_from}
use Rattle.wire.specs.Over.{over}
use Rattle.result.specs.Marks.{Marks}

abbrev pub line : ℕ → ℕ → Line
line t i = record { moment = t; op = i }

-- how many of the first k lines stay before a line of moment t: all up to the last one that is no later
unfoldable pub seat : ℕ → List Line → ℕ → ℕ
seat t ls zero = 0
seat t ls (suc k) = if (leb (get_or ls k (line 0 0)).moment t) (suc k) (seat t ls k)

-- the lines with one more in its place
unfoldable pub placed : List Line → Line → List Line
placed ls h = let k = seat h.moment ls (length ls) in take k ls ++ (h ∷ drop k ls)

-- the line that stands at place p, and n lines from there on
unfoldable pub line_in : List ℕ → ℕ → Line
line_in s p = line (word s p) (word s (p + 2))

unfoldable pub lines_in : List ℕ → ℕ → ℕ → List Line
lines_in s p zero = []
lines_in s p (suc n) = line_in s p ∷ lines_in s (p + line_size) n

-- s, in which n lines stand from place `at` on, with one more in its place: the later ones stand a line further back
unfoldable pub with_line : List ℕ → ℕ → ℕ → Line → List ℕ
with_line s at n h =
    let ls = lines_in s at n in
    let k = seat h.moment ls n in
    over s (at + line_size * k) (each line_bytes (h ∷ drop k ls))

-- What the log is made of: the marks of the operations stand in the memory, and each answered operation's moment is one of the n turns
pub record Logged (rs : List Row) (n : ℕ) (w : List ℕ) (m : ℕ) : Type 0 where
  pub count : length rs ≡ m
  pub marks : Marks rs w
  pub past : (i : ℕ) → i < length rs → ((get_or rs i gone).code ≡ not_yet → ⊥) → (get_or rs i gone).moment < n
  pub turns : n ≤ 65535

-- What writing the log does: s became t, with the lines of the m operations from place `at` on, and k is their number
pub record LogWritten (w : List ℕ) (m : ℕ) (s : List ℕ) (at : ℕ) (t : List ℕ) (k : ℕ) : Type 0 where
  pub few : k ≤ m
  pub bytes : (rs : List Row) (n : ℕ) → Logged rs n w m → t ≡ over s at (each line_bytes (lines_from n 0 rs))
  pub lines : (rs : List Row) (n : ℕ) → Logged rs n w m → k ≡ length (lines_from n 0 rs)
