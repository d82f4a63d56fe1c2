-- `tidy` meets its contract, for any bytes: the file's own refusal, or what comes of an accepted file.
use mathlib.Core.Path.{◌≡◌, refl, ap}
use native.Mathlib.Omega.{arith}
use Rattle.std.proofs.lemmas.Result.{err_from_is_err_and}
use Rattle.laws.specs.Codec.AsBytes.{are_bytes}
use Rattle.laws.specs.Codec.Answer.{no_fault, its_fault}
use Rattle.wire.specs.Comes.{comes_refused}
use Rattle.tidy.proofs.Outcomes.{by_file, by_job, given, settled}
use Rattle.tidy.proofs.tidy.Goals as goal

pub returns-in_err-reader : goal.returns-in_err-reader
returns-in_err-reader c =
    let p = err_from_is_err_and c.from_residual.result c.from_residual.ensures.1 in
    let fault = its_fault c.check.ensures.fault c.in_err-reader.was in
    rw (p.1, p.2) (settled (are_bytes _ (λ k. omega (arith, c.type_inv.file k))) (by_job _ _ _ _ fault) (comes_refused refl))

pub invariant_of-tidy_file : goal.invariant_of-tidy_file
invariant_of-tidy_file c =
    let r = c.in_ok-reader.reader in
    let accepted = no_fault c.check.ensures.fault c.in_ok-reader.was in
    let same : r.job.now ≡ c.args.file.now = ap (λ j. j.now) c.in_ok-reader.ensures.read in
    let bytes = are_bytes c.args.file.now (λ k. omega (arith, c.type_inv.file k)) in
    record { given = given r.header r.job.now (rw same bytes) (rw same accepted) r.heads.counts }

pub returns : goal.returns
returns c =
    let accepted = no_fault c.check.ensures.fault c.in_ok-reader.was in
    settled (are_bytes _ (λ k. omega (arith, c.type_inv.file k))) (by_file _ _ _ accepted) (rw c.in_ok-reader.ensures.read at c.tidy_file.ensures)
