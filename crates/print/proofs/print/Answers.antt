use mathlib.Core.Path.{sym, ap}
use native.Mathlib.Omega.{arith}
use lib.Seq.{length-take-le}
use Rattle.laws.specs.Codec.AsBytes.{are_bytes}
use Rattle.spec.specs.Cases.{told}
use Rattle.print.proofs.Laws.{ran-fits, ran_sound, ran-printed, refused-printed}
use Rattle.print.proofs.print.Goals as goal

pub slice_bounds-report-end : goal.slice_bounds-report-end
slice_bounds-report-end c = ran-fits c.run_here.ensures (ap told c.in-Ok.is)

pub slice_bounds-report-end-in-Ok : goal.slice_bounds-report-end-in-Ok
slice_bounds-report-end-in-Ok c = sym (length-take-le _ _ (ran-fits c.run_here.ensures (ap told c.in-Ok.is)))

pub report-requires : goal.report-requires
report-requires c =
    let known = c.shared_slice_known-1.given in
    (omega arith, ran_sound c.run_here.ensures (ap told c.in-Ok.is) (are_bytes _ (λ k. omega (arith, known k))))

pub returns-in-Ok : goal.returns-in-Ok
returns-in-Ok c =
    let known = c.shared_slice_known-1.given in (
      omega arith,
      ran-printed c.run_here.ensures (ap told c.in-Ok.is) (are_bytes _ (λ k. omega (arith, known k))) c.report.ensures (omega arith),
      c.run_here.ensures.result,
      c.run_here.ensures.work,
    )

pub returns-in-Err : goal.returns-in-Err
returns-in-Err c = (
  omega arith,
  refused-printed c.run_here.ensures (ap told c.in-Err.is) (rw c.number.ensures at c.refused.ensures) (omega arith),
  c.run_here.ensures.result,
  c.run_here.ensures.work,
)
