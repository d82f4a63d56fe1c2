use mathlib.Core.Path.{◌≡◌}
use Prim.Native.Nat.{◌*◌, ◌%◌, ◌^◌}
use native.Mathlib.Omega.{arith}
use borrow.Author.Tests.{lt-ltb, le-ltb, le-leb, lt-leb}
use Rattle.spec.specs.Basics.{when, or_else, among}
use Rattle.spec.specs.Decode.{page_of}
use Rattle.spec.specs.Check.{wrong_pattern}
use Rattle.job.proofs.Sizes.{shifted}
use Rattle.job.proofs.table.wrong_pattern.Goals as goal

pub returns-then-h-depth : goal.returns-then-h-depth
unfolding wrong_pattern among when or_else page_of
returns-then-h-depth c = rw (← c.depth-depth.ensures.0, lt-ltb _ _ c.if-h-depth.true)

pub returns-then-depth-pattern : goal.returns-then-depth-pattern
unfolding wrong_pattern among when or_else page_of
returns-then-depth-pattern c =
    let two_to : 1 * 2 ^ c.depth-depth.result % 2 ^ 64 ≡ 2 ^ c.depth-depth.result = shifted _ (omega (arith, c.requires.0.depth, c.if-h-depth.false)) in
    rw (← c.depth-depth.ensures.0, le-ltb _ _ c.if-h-depth.false, ← c.pattern.ensures.0, le-leb _ _ (rw (two_to) at c.if-depth-pattern.true))

pub returns : goal.returns
unfolding wrong_pattern among when or_else page_of
returns c =
    let two_to : 1 * 2 ^ c.depth-depth.result % 2 ^ 64 ≡ 2 ^ c.depth-depth.result = shifted _ (omega (arith, c.requires.0.depth, c.if-h-depth.false)) in
    rw (← c.depth-depth.ensures.0, le-ltb _ _ c.if-h-depth.false, ← c.pattern.ensures.0, lt-leb _ _ (rw (two_to) at c.if-depth-pattern.false))
