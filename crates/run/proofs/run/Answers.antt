-- `run::run` meets its contract: the check decides, and a job that meets no row is run.
use native.Mathlib.Omega.{arith}
use Rattle.std.proofs.lemmas.Result.{err_from_is_err_and}
use Rattle.laws.specs.Codec.AsBytes.{are_bytes}
use Rattle.laws.specs.Codec.Answer.{no_fault, its_fault}
use Rattle.run.specs.Call.{Accepted}
use Rattle.run.proofs.Ends.{ran, refused}
use Rattle.run.proofs.run.Goals.{In_ok-reader}
use Rattle.run.proofs.run.Goals as goal

passed : (c : In_ok-reader) → Accepted c.args.job.now c.args.res.now c.args.rows.now c.args.work.now
passed c =
    record { bytes = are_bytes _ (λ k. omega (arith, c.type_inv.job k)); faultless = no_fault (rw c.of.ensures at c.check_all.ensures.fault) c.in_ok-reader.was }

pub returns-in_err-reader : goal.returns-in_err-reader
returns-in_err-reader c =
    let p = err_from_is_err_and c.from_residual.result c.from_residual.ensures.1 in
    rw (p.1, p.2) (refused _ _ _ _ _ (its_fault (rw c.of.ensures at c.check_all.ensures.fault) c.in_err-reader.was))

pub run_accepted-requires : goal.run_accepted-requires
run_accepted-requires c = rw c.in_ok-reader.ensures.read (passed (goal.at.run_accepted-requires c).In_ok-reader)

pub returns : goal.returns
returns c = ran (passed (goal.at.returns c).In_ok-reader) (rw c.in_ok-reader.ensures.read at c.run_accepted.ensures)
