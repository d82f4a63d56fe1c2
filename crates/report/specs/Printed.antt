-- The text that is read off a job and its result is what `chargelog` is to print for the job: for a caller that has run it.
use Rattle.std.specs.Prelude.{◌≡◌, List, ℕ, length, take, None}
use Rattle.std.proofs.Common.{sym, ap, ◌∙◌}
use Rattle.spec.specs.Decode.{job_of}
use Rattle.spec.specs.Result.{result}
use Rattle.spec.specs.Check.{job_fault}
use Rattle.spec.specs.Outcome.{result_bytes}
use Rattle.spec.specs.Report.{printed_by, printed}
use Rattle.laws.specs.Codec.ResultBack.{ResultFits}
use Rattle.report.specs.Read.{report_of}
use Rattle.report.specs.Right.{report_same}

-- its result's bytes stand at the front of `res`
pub report-printed
    : (m : ℕ) (b res : List ℕ)
    → job_fault b ≡ None
    → ResultFits (length (job_of b).ops) (result (job_of b))
    → take m res ≡ result_bytes b
    → report_of b res ≡ printed b
unfolding result_bytes printed printed_by
report-printed m b res e fits written = report_same b res (result (job_of b)) m e fits written ∙ sym (ap (λ o. printed_by o b) e)
