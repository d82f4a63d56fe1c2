-- What telling an operation writes: its answer in the result buffer, and its mark in the working memory, from which the log is made.
use Rattle.std.specs.Prelude.{◌≡◌, List, [], ◌∷◌, ◌++◌, ℕ, ◌+◌, ◌*◌, ◌<◌, eqb, length, get_or}
use Rattle.spec.specs.Basics.{if}
use Rattle.spec.specs.Bytes.{word, two, four}
use Rattle.spec.specs.Code.{not_yet}
use Rattle.spec.specs.Split.{digit}
use Rattle.spec.specs.State.{Row as State-Row, gone}
use Rattle.spec.specs.Result.{told_of, answer_size, answers_offset, answer_bytes, under_way}
use Rattle.wire.specs.Over.{over}
use Rattle.memory.specs.Memory.{turns_at}
use Rattle.turn.specs.declared.Row.{Row}

-- An operation's mark, by its code and moment: 0 where it has no code yet, else its moment and 1
unfoldable pub mark_number : ℕ → ℕ → ℕ
mark_number code moment = if (eqb code not_yet) 0 (moment + 1)

unfoldable pub mark_of : State-Row → ℕ
mark_of r = mark_number r.code r.moment

-- Where the marks stand, 2 bytes each: over the turns of changes, which nobody asks for when the turns are over
unfoldable pub mark_place : ℕ → ℕ
mark_place i = turns_at + 2 * i

-- the marks of the operations stand in the working memory
pub record Marks (rs : List State-Row) (w : List ℕ) : Type 0 where
  pub at : (i : ℕ) → i < length rs → word w (mark_place i) ≡ mark_of (get_or rs i gone)

-- by the number of a stage, 1 where the operation is begun but unfinished
unfoldable pub begun_number : ℕ → ℕ
begun_number k = if (eqb k 0) 0 (if (eqb k 13) 0 1)

-- "Answer, 8 bytes: code, [page] byte, turns used without waiting (2), charge (4)", as a row has it
unfoldable pub row_bytes : Row → List ℕ
row_bytes row = (row.code ∷ row.told ∷ []) ++ two row.used ++ four row.charge

-- The row of operation i is told: its answer in the result buffer, and its mark in the memory
unfoldable pub with_answer : Row → ℕ → List ℕ → List ℕ
with_answer row i s = over s (answers_offset + answer_size * i) (row_bytes row)

unfoldable pub with_mark : Row → ℕ → List ℕ → List ℕ
with_mark row i w = over w (mark_place i) (two (mark_number row.code row.moment))

-- the same of an operation whose row in the machine is r: the result buffer s became t, the memory w became u, and v is 1 where it is under way
pub record Tells (r : State-Row) (i : ℕ) (s t w u : List ℕ) (v : ℕ) : Type 0 where
  pub answer : t ≡ over s (answers_offset + answer_size * i) (answer_bytes (told_of r))
  pub mark : u ≡ over w (mark_place i) (two (mark_of r))
  pub under : v ≡ digit (under_way r.stage)
