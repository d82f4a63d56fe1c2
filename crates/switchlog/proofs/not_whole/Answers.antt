use Rattle.std.proofs.Common.{◌∙◌}
use Rattle.spec.specs.SwitchLog.{not_whole}
use Rattle.switchlog.specs.Parts.{then_some-when}
use Rattle.switchlog.proofs.not_whole.Goals as goal

pub returns : goal.returns
unfolding not_whole
returns g c = c.then_some.ensures ∙ then_some-when _ _
