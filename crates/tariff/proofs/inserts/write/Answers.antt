use Rattle.std.specs.Prelude.{◌*◌, ◌≡◌, refl}
use Rattle.std.proofs.Common.{ap, ◌∙◌, arith}
use Rattle.std.proofs.lemmas.Result.{IfOk-at_ok}
use Rattle.spec.specs.declared.Op.{Op}
use Rattle.spec.specs.Encode.{op_bytes}
use Rattle.spec.specs.SwitchLog.{logged_size, logged_of, no_logged}
use Rattle.spec.specs.Tariff.{bands_of, charge_of}
use Rattle.laws.specs.Priced.{size}
use Rattle.wire.specs.Over.{over}
use Rattle.switchlog.specs.Parts.{reads-count, reads_at}
use Rattle.switchlog.specs.Read.{logged_in}
use Rattle.tariff.proofs.Bytes.{insert_for_lem, put_none, put_more, put_all}
use Rattle.tariff.proofs.Refusals.{record_passed}
use Rattle.tariff.proofs.inserts.write.Goals as goal

pub loop-i-init : goal.loop-i-init
loop-i-init c = put_none c.args.bands.now.tariff.now c.args.log.now c.args.out.now

pub unwrap-requires : goal.unwrap-requires
unwrap-requires c =
    let n = reads-count logged_of _ _ c.records-records.ensures in
    let read = c.read-logged.ensures ∙ reads_at logged_of _ _ c.records-records.ensures c.loop-i.i no_logged c.loop-i-test.true in
    record_passed _ _ c.loop-i.i _ c.requires.0 (omega arith) read (c.charge.ensures.fault (logged_size * c.loop-i.i))

pub loop-i-preserved : goal.loop-i-preserved
loop-i-preserved c =
    let t = c.args.bands.now.tariff.now in
    let n = reads-count logged_of _ _ c.records-records.ensures in
    let read = c.read-logged.ensures ∙ reads_at logged_of _ _ c.records-records.ensures c.loop-i.i no_logged c.loop-i-test.true in
    let r = logged_in c.read-logged.result in
    let charge = IfOk-at_ok (λ x. x ≡ charge_of (bands_of t) r) c.unwrap.ensures c.charge.ensures.charge in
    let put = c.put_insert.ensures ∙ ap (λ (o : Op). over c.loop-i.out (10 * c.loop-i.i) (op_bytes o)) (insert_for_lem (bands_of t) r _ _ refl charge) in
    put_more t c.args.log.now c.args.out.now _ _ c.loop-i.i _ (omega arith) c.loop-i.invariant read put

pub returns : goal.returns
returns c =
    let t = c.args.bands.now.tariff.now in
    let n = reads-count logged_of _ _ c.records-records.ensures in
    (omega (arith, size t c.args.log.now), put_all t c.args.log.now c.args.out.now _ c.loop-i.i (omega arith) c.loop-i.invariant)
