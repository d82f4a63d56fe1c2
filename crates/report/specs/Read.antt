-- The report as it is read from a job's bytes and a result's bytes.
use Rattle.std.specs.Prelude.{List, ℕ}
use Rattle.spec.specs.Decode.{job_of}
use Rattle.spec.specs.Result.{read_result}
use Rattle.spec.specs.Report.{report}

unfoldable pub report_of : List ℕ → List ℕ → List ℕ
report_of job res = report (job_of job) (read_result res)
