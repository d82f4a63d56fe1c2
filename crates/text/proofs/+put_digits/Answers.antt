-- `text::put_digits` meets its contract: the digits before the last by the call within, and the last behind them.
use mathlib.Core.Path.{ap}
use Prim.Native.Nat.{◌+◌, ◌%◌}
use native.Mathlib.Omega.{arith}
use lib.ListN.{length, length-append}
use Rattle.wire.specs.WroteLaws.{one, then, kept}
use Rattle.text.proofs.Decimal.{decimal-small, decimal_large, length-decimal_large}
use Rattle.text.proofs.+put_digits.Goals as goal

pub bounds-out-at : goal.bounds-out-at
bounds-out-at t c = let e = ap length (decimal-small c.args.n c.if-n-lt10.true) in omega arith

pub returns-then-n-lt10 : goal.returns-then-n-lt10
returns-then-n-lt10 t c =
    let a = c.args in
    rw (decimal-small a.n c.if-n-lt10.true) (one a.out.now a.at (48 + a.n))

pub put_digits-last-requires : goal.put_digits-last-requires
put_digits-last-requires t c =
    let n = c.args.n in
    let e = length-decimal_large n c.if-n-lt10.false in
    (omega arith, omega arith)

pub bounds-out-last : goal.bounds-out-last
bounds-out-last t c =
    let n = c.args.n in
    let w = c.put_digits-last.ensures in
    let e = length-decimal_large n c.if-n-lt10.false in
    let k = kept w in
    omega (arith, w.stop)

pub overflow_add-result-2 : goal.overflow_add-result-2
overflow_add-result-2 t c =
    let n = c.args.n in
    let w = c.put_digits-last.ensures in
    let e = length-decimal_large n c.if-n-lt10.false in
    let k = kept w in
    omega (arith, w.stop)

pub returns : goal.returns
returns t c =
    let n = c.args.n in
    let d = c.put_digits-last in
    rw (decimal_large n c.if-n-lt10.false, length-append) (then d.ensures (one d.new.out d.result (48 + n % 10)))
