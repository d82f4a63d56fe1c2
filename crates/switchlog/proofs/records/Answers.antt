use Rattle.std.proofs.Common.{ap, ◌∙◌}
use Rattle.std.specs.Prelude.{map}
use Rattle.spec.specs.SwitchLog.{logged_of, switch_log}
use Rattle.switchlog.specs.Parts.{chunks_are_parts}
use Rattle.switchlog.proofs.records.Goals as goal

pub returns : goal.returns
unfolding switch_log
returns c = ap (map logged_of) (c.as_chunks.ensures.front ∙ chunks_are_parts _ _ _)
