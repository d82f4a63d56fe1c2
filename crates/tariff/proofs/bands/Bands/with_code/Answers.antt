use Rattle.std.specs.Prelude.{Some}
use Rattle.std.proofs.Common.{◌∙◌, sym, ap, arith}
use Rattle.laws.specs.Tariff.{unit_good}
use Rattle.spec.specs.Tariff.{Band, band_of, bands_of, no_band}
use Rattle.switchlog.specs.Parts.{reads-count, reads_at}
use Rattle.tariff.proofs.Filled.{indexed_nobody, indexed_band}
use Rattle.tariff.proofs.bands.Bands.with_code.Goals as goal

pub returns-in_err-k-clause-band : goal.returns-in_err-k-clause-band
returns-in_err-k-clause-band c =
    rw c.from_residual.ensures (sym (indexed_nobody _ _ c.args.self.now.index _ (omega arith) c.in_err-k.was))

pub bounds-bands-k : goal.bounds-bands-k
bounds-bands-k c =
    let n = indexed_band (bands_of c.args.self.now.tariff.now) _ c.args.self.now.index _ (omega arith) _ c.in_ok-k.was in
    omega (arith, reads-count band_of _ _ c.bands.ensures, n.within)

pub returns-clause-band : goal.returns-clause-band
returns-clause-band c =
    let n = indexed_band (bands_of c.args.self.now.tariff.now) _ c.args.self.now.index _ (omega arith) _ c.in_ok-k.was in
    ap Some (c.read.ensures ∙ reads_at band_of _ _ c.bands.ensures _ no_band (omega (arith, reads-count band_of _ _ c.bands.ensures, n.within))) ∙ sym n.band

pub returns-clause-unit : goal.returns-clause-unit
returns-clause-unit c =
    let n = indexed_band (bands_of c.args.self.now.tariff.now) _ c.args.self.now.index _ (omega arith) _ c.in_ok-k.was in
    let read = c.read.ensures ∙ reads_at band_of _ _ c.bands.ensures _ no_band (omega (arith, reads-count band_of _ _ c.bands.ensures, n.within)) in
    omega (arith, ap (λ (b : Band). b.unit) read, (unit_good _ _ c.args.self.now.right n.within).0)
