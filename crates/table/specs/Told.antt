-- What telling the rows of the lent table does: answers in the result buffer, marks in the working memory, and a count of those under way.
use Rattle.std.specs.Prelude.{ℕ, zero, suc, ◌+◌, List, get_or}
use Rattle.turn.specs.declared.Row.{Row}
use Rattle.turn.specs.Rows.{blank_row}
use Rattle.result.specs.Marks.{begun_number, with_answer, with_mark}

pub record Told : Type 0 where
  pub result : List ℕ
  pub work : List ℕ
  pub under : ℕ

abbrev pub told : List ℕ → List ℕ → ℕ → Told
told s w n = record { result = s; work = w; under = n }

-- row i is told
unfoldable pub tell_row : Row → ℕ → Told → Told
tell_row row i q = told (with_answer row i q.result) (with_mark row i q.work) (q.under + begun_number row.stage)

-- the first i rows of a table
unfoldable pub tell_rows : List Row → ℕ → Told → Told
tell_rows rows zero q = q
tell_rows rows (suc i) q = tell_row (get_or rows i blank_row) i (tell_rows rows i q)
