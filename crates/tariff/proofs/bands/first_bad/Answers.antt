use Rattle.std.specs.Prelude.{ℕ, ◌*◌, Option}
use Rattle.std.proofs.Common.{refl, sym, ◌∙◌, arith, length-set}
use Rattle.std.proofs.Math.Seq.{take_all}
use Rattle.laws.specs.Codec.Passed.{clear_more, clear_hit, clear_all}
use Rattle.spec.specs.Tariff.{band_size, band_of, bands_of, no_band, bad_band, band_fault}
use Rattle.switchlog.specs.Parts.{reads-count, reads_at}
use Rattle.tariff.proofs.Filled.{told_first, bad_by_number, index-next}
use Rattle.tariff.proofs.bands.first_bad.Goals as goal

pub returns-then-is_bad : goal.returns-then-is_bad
unfolding band_fault
returns-then-is_bad c =
    let bands = bands_of c.args.tariff.now in
    let n = reads-count band_of _ _ c.bands-bytes-items.ensures in
    let read = c.read-band.ensures ∙ reads_at band_of _ _ c.bands-bytes-items.ensures c.loop-i.i no_band c.loop-i-test.true in
    let bad = sym (bad_by_number bands c.loop-i.i read (c.loop-i.invariant.1 _ (omega arith))) ∙ sym c.is_bad.ensures ∙ c.if-is_bad.true in
    told_first (clear_hit (bad_band bands) bands no_band (λ k. band_size * k) c.loop-i.i _ (omega arith) c.loop-i.invariant.0 bad refl)

pub loop-i-preserved : goal.loop-i-preserved
loop-i-preserved c =
    let bands = bands_of c.args.tariff.now in
    let n = reads-count band_of _ _ c.bands-bytes-items.ensures in
    let read = c.read-band.ensures ∙ reads_at band_of _ _ c.bands-bytes-items.ensures c.loop-i.i no_band c.loop-i-test.true in
    let fine = sym (bad_by_number bands c.loop-i.i read (c.loop-i.invariant.1 _ (omega arith))) ∙ sym c.is_bad.ensures ∙ c.if-is_bad.false in
    (clear_more (bad_band bands) bands no_band _ c.loop-i.invariant.0 fine, index-next bands _ (omega arith) _ c.loop-i.invariant.2 read fine c.loop-i.invariant.1, omega (arith, length-set {A = Option ℕ}, c.loop-i.invariant.2))

pub returns : goal.returns
unfolding band_fault
returns c =
    let bands = bands_of c.args.tariff.now in
    let n = reads-count band_of _ _ c.bands-bytes-items.ensures in
    (clear_all (bad_band bands) bands no_band (λ k. band_size * k) _ (omega arith) c.loop-i.invariant.0, λ z. rw (take_all c.loop-i.i bands (omega arith)) at c.loop-i.invariant.1)
