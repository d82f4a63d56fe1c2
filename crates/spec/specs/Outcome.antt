-- What a call of the library comes to for any bytes and any lent buffers: the outcome, and every lent buffer afterwards.
use Rattle.std.specs.Prelude.{ℕ, List, ◌++◌, length, drop, replicate, Option, None, Some, Result, Ok, Err}
use Rattle.spec.specs.Check.{Lent, Fault, first_fault}
use Rattle.spec.specs.Decode.{job_of}
use Rattle.spec.specs.Result.{result, encode_result}

-- the result of an accepted job, as bytes
unfoldable pub result_bytes : List ℕ → List ℕ
result_bytes b = encode_result (result (job_of b))

-- "A refusal gives the number and a place"; an output "is answered with its length": the cases of an outcome
abbrev pub Outcome : Type 0
Outcome = Result ℕ Fault

abbrev pub done : ℕ → Outcome
done n = Ok n

abbrev pub refused : ℕ → ℕ → Outcome
refused n p = Err (record { number = n; place = p })

unfoldable pub outcome_by : Option Fault → List ℕ → Outcome
outcome_by None output = Ok (length output)
outcome_by (Some f) output = Err f

-- "Nothing lent is written" where a call is refused
unfoldable pub after_call : {A : Type 0} → Option Fault → A → A → A
after_call None before after = after
after_call (Some f) before after = before

-- the buffer of an output: "bytes past it keep their values"
unfoldable pub buffer_by : Option Fault → List ℕ → List ℕ → List ℕ
buffer_by fault output buffer =
    let written = output ++ drop (length output) buffer in
    after_call fault buffer written

-- "A job that meets no row below is run"
unfoldable pub outcome : Lent → List ℕ → Outcome
outcome l b =
    let output = result_bytes b in
    outcome_by (first_fault l b) output

-- the result buffer: "Result bytes past the total keep their values"
unfoldable pub buffer_after : Lent → List ℕ → List ℕ → List ℕ
buffer_after l b buffer =
    let output = result_bytes b in
    buffer_by (first_fault l b) output buffer

-- the lent table: "every row of the lent table has one fixed value, the same for every job, that stands for an operation not begun".
-- The fixed value is the code's to choose: its row of numbers for an operation not begun
unfoldable pub rows_by : {A : Type 0} → Option Fault → A → List A → List A
rows_by fault fixed rows = after_call fault rows (replicate (length rows) fixed)

unfoldable pub rows_after : {A : Type 0} → A → Lent → List ℕ → List A → List A
rows_after fixed l b rows = rows_by (first_fault l b) fixed rows

-- the working memory: "After a run, lent working memory is zero"
unfoldable pub work_by : Option Fault → List ℕ → List ℕ
work_by fault work = after_call fault work (replicate (length work) 0)

unfoldable pub work_after : Lent → List ℕ → List ℕ → List ℕ
work_after l b work = work_by (first_fault l b) work
