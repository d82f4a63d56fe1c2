use Rattle.std.proofs.Common.{sym, ◌∙◌}
use Rattle.std.proofs.Math.ListN.{get_or-map}
use Rattle.band.specs.declared.TheConstants.{CLASSES}
use Rattle.band.specs.declared.Class.TheVariants.{Cheap}
use Rattle.band.specs.Hours.{hour_class_lem}
use Rattle.band.specs.Read.{class_number}
use Rattle.band.proofs.Class.of.Goals as goal

pub returns : goal.returns
returns c = sym (get_or-map class_number CLASSES.now c.args.hour Cheap) ∙ (hour_class_lem c.args.hour c.requires).0
