use Rattle.std.proofs.Common.{◌≡◌, sym, ◌∙◌, ◌+◌, ◌-◌, min, arith}
use Rattle.spec.specs.Key.{pseudo_key, shared}
use Rattle.spec.specs.Split.{least_shared}
use Rattle.spec.specs.Decode.{page_of}
use Rattle.page.specs.View.{record_at, records_from, left_all, left_more, left_none}
use Rattle.pieces.specs.Least.{least_start, least-turn, least_end}
use Rattle.pieces.proofs.least_shared.Goals as goal

pub loop-i-init : goal.loop-i-init
loop-i-init c =
    let a = c.args in
    let all = left_all a.page.now c.count-i-end.result c.count-i-end.ensures.1 in
    (omega arith, rw (← all) (least_start (page_of a.page.now).records a.call))

pub loop-i-preserved : goal.loop-i-preserved
loop-i-preserved c =
    let l = c.loop-i in
    let a = c.args in
    let n = c.count-i-end.result in
    let s = a.page.now in
    let bits : c.min-least.result ≡ min (shared 32 (pseudo_key (record_at s l.i).call) (pseudo_key a.call)) l.least = cc in
    let more = least-turn (record_at s l.i) (records_from s (l.i + 1) (n - (l.i + 1))) a.call l.least in
    (omega arith, l.invariant.1 ∙ rw (left_more s l.i n (omega arith), bits) more)

pub returns : goal.returns
returns c =
    let l = c.loop-i in
    let a = c.args in
    let none = left_none a.page.now l.i c.count-i-end.result (omega arith) in
    let same : least_shared (page_of a.page.now).records a.call ≡ l.least = l.invariant.1 ∙ rw none (least_end a.call l.least l.invariant.0) in
    (sym same, l.invariant.0)
