use mathlib.Core.Path.{sym, ap, ◌∙◌}
use Rattle.spec.specs.declared.Rec.{Rec}
use Rattle.spec.specs.File.{no_record}
use Rattle.laws.specs.Codec.Places.{record_part}
use Rattle.page.specs.View.{record_at}
use Rattle.job.proofs.records.Records.call_at.Goals as goal

pub returns : goal.returns
unfolding record_at
returns c = ap (λ (r : Rec). r.call) (c.rec_at.ensures ∙ sym (record_part _ _ no_record c.requires))
