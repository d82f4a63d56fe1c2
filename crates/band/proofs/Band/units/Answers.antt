use Rattle.std.proofs.Common.{◌-◌, arith, rules}
use Rattle.spec.specs.Tariff.{started_units}
use Rattle.band.specs.Largest.{units_most, units_none}
use Rattle.band.proofs.Band.units.Goals as goal

pub returns-then-talked-free : goal.returns-then-talked-free
unfolding started_units
returns-then-talked-free c = (units_none _ _ _ c.requires c.if-talked-free.true, omega arith)

pub returns : goal.returns
unfolding started_units
returns c = search (rules, units_most (c.args.talked - c.args.self.free) c.args.self.unit c.requires)
