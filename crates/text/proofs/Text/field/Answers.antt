use Rattle.std.proofs.Common.{arith}
use Rattle.text.specs.AddedLaws.{then, wider, room}
use Rattle.text.proofs.Decimal.{decimal_ten}
use Rattle.text.proofs.Text.field.Goals as goal

pub digits-requires : goal.digits-requires
digits-requires c =
    let e = decimal_ten c.args.n c.ranges.n.fits in
    let r = room 10 c.bytes.ensures c.requires in
    omega arith

pub returns : goal.returns
returns c = then c.bytes.ensures (wider (decimal_ten c.args.n c.ranges.n.fits) c.digits.ensures)
