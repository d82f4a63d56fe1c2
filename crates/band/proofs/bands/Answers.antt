use Rattle.std.proofs.Common.{ap, ◌∙◌, map}
use Rattle.spec.specs.Tariff.{band_of, bands_of}
use Rattle.switchlog.specs.Parts.{chunks_are_parts}
use Rattle.band.proofs.bands.Goals as goal

pub returns : goal.returns
unfolding bands_of
returns c = ap (map band_of) (c.as_chunks.ensures.front ∙ chunks_are_parts _ _ _)
