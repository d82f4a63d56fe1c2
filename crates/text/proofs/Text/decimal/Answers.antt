use Rattle.std.proofs.Common.{arith}
use Rattle.text.specs.AddedLaws.{wider}
use Rattle.text.proofs.Decimal.{decimal_twenty}
use Rattle.text.proofs.Text.decimal.Goals as goal

pub digits-requires : goal.digits-requires
digits-requires c = let e = decimal_twenty c.args.n c.ranges.n.fits in omega arith

pub returns : goal.returns
returns c = wider (decimal_twenty c.args.n c.ranges.n.fits) c.digits.ensures
