use Rattle.std.specs.Prelude.{◌*◌, Some}
use Rattle.std.proofs.Common.{◌∙◌, sym, ap, arith}
use Rattle.spec.specs.SwitchLog.{logged_size, logged_of, no_logged, switch_log}
use Rattle.spec.specs.Tariff.{wrong_logged}
use Rattle.laws.specs.Codec.Walk.{first-at}
use Rattle.laws.specs.Codec.Passed.{passed_more, passed_end}
use Rattle.switchlog.specs.Parts.{reads-count, reads_at}
use Rattle.tariff.proofs.records.wrong_logged.Invariants.{fault}
use Rattle.tariff.proofs.records.wrong_logged.Goals as goal

pub returns-in-Err : goal.returns-in-Err
unfolding wrong_logged
returns-in-Err c =
    let t = c.args.bands.now.tariff.now in
    let log = c.args.log.now in
    let n = reads-count logged_of _ _ c.records-bytes-items.ensures in
    let read = c.read.ensures ∙ reads_at logged_of _ _ c.records-bytes-items.ensures c.loop-i.i no_logged c.loop-i-test.true in
    let told = sym (ap (fault t c.loop-i.i) read) ∙ sym (c.in-Err.ensures.fault (logged_size * c.loop-i.i)) ∙ ap Some (sym c.at.ensures) in
    sym (first-at (fault t) (switch_log log) no_logged c.loop-i.i _ (omega arith) c.loop-i.invariant told)

pub loop-i-preserved : goal.loop-i-preserved
loop-i-preserved c =
    let t = c.args.bands.now.tariff.now in
    let read = c.read.ensures ∙ reads_at logged_of _ _ c.records-bytes-items.ensures c.loop-i.i no_logged c.loop-i-test.true in
    let fine = sym (ap (fault t c.loop-i.i) read) ∙ sym (c.in_default.ensures.fault (logged_size * c.loop-i.i)) in
    passed_more (fault t) (switch_log c.args.log.now) no_logged c.loop-i.i c.loop-i.invariant fine

pub returns : goal.returns
unfolding wrong_logged
returns c =
    let n = reads-count logged_of _ _ c.records-bytes-items.ensures in
    sym (passed_end (fault c.args.bands.now.tariff.now) (switch_log c.args.log.now) no_logged c.loop-i.i (omega arith) c.loop-i.invariant)
