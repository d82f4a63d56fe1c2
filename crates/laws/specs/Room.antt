-- The least result buffer is enough: the result of an accepted job has at most 24 + 12m bytes and the charge file's.
use Rattle.std.specs.Prelude.{ℕ, ◌≤◌, ◌≡◌, List, length, None}
use Rattle.std.proofs.Common.{arith, eqb-true}
use Rattle.std.proofs.lemmas.List.{length-map}
use Rattle.spec.specs.Job.{Job, table_offset, ops_offset, file_length}
use Rattle.spec.specs.Encode.{header_for}
use Rattle.spec.specs.Decode.{header_of, file_of, job_of}
use Rattle.spec.specs.Run.{run}
use Rattle.spec.specs.Result.{told_of, file_bytes, file_left, result_of, result}
use Rattle.spec.specs.Check.{job_fault, result_size}
use Rattle.spec.specs.Outcome.{result_bytes}
use Rattle.spec.specs.Proper.{FileOk}
use Rattle.laws.specs.Tools.{if_case}
use Rattle.laws.specs.Codec.Rows.{counted}
use Rattle.laws.specs.Codec.Accepted.{accepted-file}
use Rattle.laws.specs.Codec.Sizes.{length-file, length-result}
use Rattle.laws.specs.Turns.Whole.{end_whole}
use Rattle.laws.specs.Turns.Again.{final_ok}
use Rattle.laws.specs.Turns.Sizes.{log-le, run_shaped}

-- a charge file is as long after the run as it was before
file-room : (j : Job) → FileOk j.file → length (file_bytes (result j).file) ≤ file_length (header_for j.file 0 0)
unfolding result result_of file_left file_bytes file_length ops_offset table_offset header_for
file-room j ok =
    if_case (λ f. length (file_bytes f) ≤ file_length (header_for j.file 0 0))
    (λ e.
    let h = run_shaped j in
    rw (length-file (run j).file (final_ok j ok (eqb-true _ _ e)), h.depth, h.capacity, h.limit) (omega arith))
    (λ e. omega arith)

accepted-room : (b : List ℕ) → FileOk (job_of b).file → length (file_bytes (result (job_of b)).file) ≤ file_length (header_of b)
unfolding file_length ops_offset table_offset header_for job_of file_of
accepted-room b ok = file-room (job_of b) ok

pub result_fits : (b : List ℕ) → job_fault b ≡ None → length (result_bytes b) ≤ result_size (header_of b)
unfolding result_bytes result_size result result_of
result_fits b accepted =
    let ok = accepted-file b accepted in
    omega
    (arith, length-result (result (job_of b)), length-map (run (job_of b)).rows told_of, (end_whole (job_of b) ok).rows, (counted b).ops, log-le (job_of b) ok, accepted-room b ok)
