-- What is lent by a caller that lends enough for every job: row 11 never holds, so what is printed is `printed`.
use Rattle.std.specs.Prelude.{ℕ, ◌≤◌, ◌≡◌, refl, List, Option, None, Some}
use Rattle.std.proofs.Math.Path.{ap}
use Rattle.std.proofs.Common.{arith}
use Rattle.spec.specs.Basics.{or_else}
use Rattle.spec.specs.Job.{Header}
use Rattle.spec.specs.Decode.{header_of}
use Rattle.spec.specs.Check.{Lent, Fault, work_size, result_size, small_for, small_output, numbered, job_fault, first_fault}
use Rattle.spec.specs.Report.{printed_by, printed}
use Rattle.laws.specs.Codec.Tools.{failed, among_none, among_end}
use Rattle.laws.specs.Codec.Rows.{Limits, accepted_header}
use Rattle.laws.specs.Codec.Longest.{file-most}

-- no result is longer
abbrev pub most_result : ℕ
most_result = 21048

result-most : (h : Header) → Limits h → result_size h ≤ most_result
unfolding result_size
result-most h l = omega (arith, file-most h l, l.ops)

module _ (b : List ℕ) (l : Lent) (result : most_result ≤ l.output) (rows : 256 ≤ l.rows) (work : work_size ≤ l.work) where
  never : job_fault b ≡ None → small_output l b ≡ None
  unfolding small_output small_for
  never e =
      let k = (accepted_header b e).limits in
      simp (failed, among_none, among_end) (omega (arith, result-most (header_of b) k), (omega (arith, k.ops), (work, tt)))

  by : (o : Option Fault) → job_fault b ≡ o → first_fault l b ≡ o
  unfolding first_fault or_else numbered
  by None e = rw (e, never e)
  by (Some f) e = rw e

  pub enough-printed : printed_by (first_fault l b) b ≡ printed b
  unfolding printed
  enough-printed = ap (λ o. printed_by o b) (by (job_fault b) refl)
