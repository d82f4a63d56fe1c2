use mathlib.Core.Path.{◌≡◌, sym, ◌∙◌}
use native.Mathlib.Nat.{add-zero, sub-zero}
use native.Mathlib.Omega.{arith}
use Rattle.laws.specs.Key.{bit_of}
use Rattle.turn.proofs.LastOne.{next, last_none, picked_one, picked_none, stops, goes_on}
use Rattle.turn.proofs.entries.last_one.Goals.{then-one, else-one}
use Rattle.turn.proofs.entries.last_one.Goals as goal

pub loop-k-init : goal.loop-k-init
loop-k-init c = (omega arith, rw (sub-zero, add-zero))

pub returns-then-one-bit : goal.returns-then-one-bit
returns-then-one-bit c =
    let a = c.args in
    let l = c.loop-k in
    let own = c.entry_bit-one.ensures in
    let picked : c.if-one.last
    ≡ next a.g a.e a.d l.k l.last = elim c.if-one.branch [ then-one w ↦ picked_one a.g a.e a.d l.k l.last own w.if-one.true w.last-is | else-one w ↦ picked_none a.g a.e a.d l.k l.last own w.if-one.false w.last-is ] in
    let end = stops a.g a.e a.d l.k l.last own a.call a.n (bit_of _ _ c.bit.ensures c.pseudo_key-key.ensures) (omega arith) l.invariant.0 picked c.if-one-bit.true in
    (end.0 ∙ sym l.invariant.1, end.1)

pub loop-k-preserved : goal.loop-k-preserved
loop-k-preserved c =
    let a = c.args in
    let l = c.loop-k in
    let own = c.entry_bit-one.ensures in
    let picked : c.if-one.last
    ≡ next a.g a.e a.d l.k l.last = elim c.if-one.branch [ then-one w ↦ picked_one a.g a.e a.d l.k l.last own w.if-one.true w.last-is | else-one w ↦ picked_none a.g a.e a.d l.k l.last own w.if-one.false w.last-is ] in
    let on = goes_on a.g a.e a.d l.k l.last own a.call a.n (bit_of _ _ c.bit.ensures c.pseudo_key-key.ensures) (omega arith) l.invariant.0 picked c.if-one-bit.false in
    (on.0, l.invariant.1 ∙ on.1)

pub returns : goal.returns
returns c =
    let a = c.args in
    let l = c.loop-k in
    (sym (l.invariant.1 ∙ last_none a.g a.call a.e a.n a.d l.k l.last (omega arith)), omega arith)
