use mathlib.Core.Path.{◌≡◌}
use native.Mathlib.Omega.{arith}
use borrow.Author.Tests.{eq-eqb, ne_eqb}
use Rattle.spec.specs.Bytes.{byte}
use Rattle.spec.specs.Decode.{page_of}
use Rattle.spec.specs.Check.{bad_record}
use Rattle.job.proofs.records.Records.is_bad.Goals as goal

pub index-requires : goal.index-requires
unfolding page_of
index-requires c = let e : c.depth.result ≡ byte c.args.self.page.now 0 = c.depth.ensures.0 in omega (arith, e, c.args.self.small.deep)

pub returns-then-index-pattern : goal.returns-then-index-pattern
unfolding bad_record page_of
returns-then-index-pattern c =
    rw (← c.call_at.ensures, ← c.depth.ensures.0, ← c.index.ensures.0, ← c.pattern.ensures.0, ne_eqb _ _ c.if-index-pattern.true)

pub returns-else-index-pattern : goal.returns-else-index-pattern
unfolding bad_record page_of
returns-else-index-pattern c =
    rw (← c.call_at.ensures, ← c.depth.ensures.0, ← c.index.ensures.0, ← c.pattern.ensures.0, eq-eqb _ _ c.if-index-pattern.false) c.not_above.ensures
