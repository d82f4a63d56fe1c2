-- `deal::deal` meets its contract: the check decides, and where nothing is refused turns are dealt.
use native.Mathlib.Omega.{arith}
use Rattle.std.proofs.lemmas.Result.{err_from_is_err_and}
use Rattle.laws.specs.Codec.AsBytes.{are_bytes}
use Rattle.laws.specs.Codec.Answer.{no_fault, its_fault}
use Rattle.deal.specs.Call.{Accepted}
use Rattle.deal.proofs.Ends.{dealt, refused}
use Rattle.deal.proofs.deal.Goals.{In_ok-reader}
use Rattle.deal.proofs.deal.Goals as goal

passed : (c : In_ok-reader) → Accepted c.args.job.now c.args.out.now c.args.rows.now c.args.work.now
passed c =
    record { bytes = are_bytes _ (λ k. omega (arith, c.type_inv.job k)); faultless = no_fault (rw c.of.ensures at c.check_all.ensures.fault) c.in_ok-reader.was }

pub returns-in_err-reader : goal.returns-in_err-reader
returns-in_err-reader c =
    let p = err_from_is_err_and c.from_residual.result c.from_residual.ensures.1 in
    rw (p.1, p.2) (refused _ _ _ _ _ (its_fault (rw c.of.ensures at c.check_all.ensures.fault) c.in_err-reader.was))

pub deal_accepted-requires : goal.deal_accepted-requires
deal_accepted-requires c = rw c.in_ok-reader.ensures.read (passed (goal.at.deal_accepted-requires c).In_ok-reader)

pub returns : goal.returns
returns c = dealt (passed (goal.at.returns c).In_ok-reader) (rw c.in_ok-reader.ensures.read at c.deal_accepted.ensures)
