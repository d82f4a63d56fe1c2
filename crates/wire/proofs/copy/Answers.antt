use Rattle.std.proofs.Common.{◌≡◌, ℕ, ◌+◌, List, length, get_or, take, drop, arith, sym, ap, ◌∙◌, take_all}
use Rattle.spec.specs.Bytes.{byte}
use Rattle.laws.specs.Codec.Parts.{byte_in}
use Rattle.wire.specs.Over.{over}
use Rattle.wire.specs.OverLaws.{over_none, over_next}
use Rattle.wire.specs.Parts.{length_part}
use Rattle.wire.proofs.copy.Goals as goal

pub loop-i-init : goal.loop-i-init
loop-i-init c = sym (over_none c.args.to.now c.args.b)

pub loop-i-preserved : goal.loop-i-preserved
unfolding byte
loop-i-preserved c =
    let a = c.args in
    let i = c.loop-i.i in
    let y : List ℕ = take a.n (drop a.a a.from.now) in
    let long : length y ≡ a.n = length_part a.from.now a.a a.n (omega arith) in
    let here : get_or y i 0 ≡ get_or a.from.now (a.a + i) 0 = byte_in a.n a.a a.from.now i (omega arith) in
    rw c.loop-i.invariant (rw here at (over_next y a.to.now a.b i (omega arith)))

pub returns : goal.returns
returns c =
    let a = c.args in
    let y : List ℕ = take a.n (drop a.a a.from.now) in
    let long : length y ≡ a.n = length_part a.from.now a.a a.n (omega arith) in
    c.loop-i.invariant ∙ ap (over a.to.now a.b) (take_all c.loop-i.i y (omega arith))
