use mathlib.Core.Path.{sym, ◌∙◌}
use mathlib.Core.Bool.{or-false}
use borrow.Author.Tests.{eq-eqb, ne_eqb}
use Rattle.spec.specs.declared.Kind.TheVariants.{Insert, Delete}
use Rattle.spec.specs.Check.{bad_op}
use Rattle.job.proofs.Operation.{none_told, kind_told, one_searches, not_one}
use Rattle.job.proofs.work.bad_op.Goals as goal

pub returns-in-None : goal.returns-in-None
unfolding bad_op
returns-in-None c = rw (← c.u8_at.ensures.0, none_told _ (sym c.kind_of.ensures ∙ c.in-None.is))

pub returns-then-spare : goal.returns-then-spare
unfolding bad_op
returns-then-spare c =
    let k = kind_told _ _ (sym c.kind_of.ensures ∙ c.in-Some-Search.is) in
    rw (← c.u8_at.ensures.0, k.0, ← c.u8_at-spare.ensures.0, ne_eqb _ _ c.if-spare.true)

pub returns-else-spare : goal.returns-else-spare
unfolding bad_op
returns-else-spare c =
    let k = kind_told _ _ (sym c.kind_of.ensures ∙ c.in-Some-Search.is) in
    rw
    (← c.u8_at.ensures.0, k.0, ← c.u8_at-spare.ensures.0, eq-eqb _ _ c.if-spare.false, one_searches c.u8_at.result k.0 (k.1 ∙ c.in-Some-Search.field-0-is), c.u32_at.ensures)

pub returns-in-Some-Insert : goal.returns-in-Some-Insert
unfolding bad_op
returns-in-Some-Insert c =
    let k = kind_told _ _ (sym c.kind_of.ensures ∙ c.in-Some-Insert.is) in
    rw (← c.u8_at.ensures.0, k.0, ← c.u8_at-spare.ensures.0, not_one c.u8_at.result Insert (λ e. cc) (k.1 ∙ c.in-Some-Insert.field-0-is), or-false)

pub returns-in-Some-Delete : goal.returns-in-Some-Delete
unfolding bad_op
returns-in-Some-Delete c =
    let k = kind_told _ _ (sym c.kind_of.ensures ∙ c.in-Some-Delete.is) in
    rw (← c.u8_at.ensures.0, k.0, ← c.u8_at-spare.ensures.0, not_one c.u8_at.result Delete (λ e. cc) (k.1 ∙ c.in-Some-Delete.field-0-is), or-false)
