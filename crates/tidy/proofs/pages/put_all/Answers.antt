-- `put_all` meets its contract: the first i records of the page are put in; what is written is read back.
use mathlib.Core.Path.{◌≡◌, ◌∙◌}
use native.Mathlib.Omega.{arith}
use Rattle.spec.specs.Bytes.{byte}
use Rattle.page.specs.View.{records_all}
use Rattle.tidy.proofs.Gather.{partly_none, Partly-more}
use Rattle.tidy.proofs.pages.put_all.Goals as goal

pub loop-i-init : goal.loop-i-init
unfolding byte
loop-i-init c =
    let a = c.args in
    record {
      bytes = λ k. omega (arith, c.type_inv.out k);
      written = partly_none a.out.now a.page.now a.n (λ k. omega (arith, c.type_inv.out k));
    }

pub loop-i-preserved : goal.loop-i-preserved
unfolding byte
loop-i-preserved c =
    let l = c.loop-i in
    let a = c.args in
    record {
      bytes = l.invariant.bytes;
      written =
          c.put_in.ensures
          ∙ rw c.rec_at.ensures
          (Partly-more a.out.now a.page.now l.out a.n l.i l.invariant.bytes (λ k. omega (arith, c.type_inv.page k)) (omega arith) l.invariant.written);
    }

pub returns-clause-records : goal.returns-clause-records
returns-clause-records c =
    let l = c.loop-i in
    let all : l.i ≡ byte c.args.page.now 1 = omega arith in
    rw (records_all c.args.page.now) (rw all at l.invariant.written)
