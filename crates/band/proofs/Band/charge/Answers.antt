use Rattle.std.proofs.Common.{sym, arith}
use borrow.Author.Tests.{eq-eqb, ne_eqb}
use Rattle.spec.specs.Tariff.{charge_in, due}
use Rattle.laws.specs.Tools.{if-true, if-false}
use Rattle.band.specs.Largest.{product_most, largest}
use Rattle.band.proofs.Band.charge.Goals as goal

pub overflow_mul-result : goal.overflow_mul-result
overflow_mul-result c = omega (arith, product_most c.price.result c.units.result (omega arith) c.units.ensures.1)

pub overflow_add-result : goal.overflow_add-result
overflow_add-result c = omega (arith, largest c.args.self.fee c.price.result c.units.result (omega arith) (omega arith) c.units.ensures.1)

pub returns-then-logged-eq0 : goal.returns-then-logged-eq0
unfolding charge_in
returns-then-logged-eq0 c = sym (if-true _ _ (eq-eqb _ _ c.if-logged-eq0.true))

pub returns : goal.returns
unfolding charge_in due
returns c = rw (c.price.ensures, c.units.ensures.0) (sym (if-false _ _ (ne_eqb _ _ c.if-logged-eq0.false)))
