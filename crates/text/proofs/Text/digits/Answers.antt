use Rattle.std.proofs.Common.{refl}
use Rattle.wire.specs.WroteLaws.{kept}
use Rattle.text.proofs.Text.digits.Goals as goal

pub returns : goal.returns
returns c = record { lent = refl; kept = kept c.put_digits-self.ensures; wrote = c.put_digits-self.ensures }
