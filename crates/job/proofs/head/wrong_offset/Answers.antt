use mathlib.Core.Logic.{inl, inr}
use mathlib.Core.Path.{◌≡◌}
use mathlib.Core.Bool.{not, ◌||◌}
use mathlib.Core.List.{[], ◌∷◌}
use lib.ListN.{length}
use lib.Dec.{eqb}
use borrow.Author.Tests.{eq-eqb, ne_eqb}
use Rattle.spec.specs.Basics.{when, or_else, among}
use Rattle.spec.specs.Bytes.{long}
use Rattle.spec.specs.Job.{turns_offset, total}
use Rattle.spec.specs.Check.{wrong_offset}
use Rattle.header.specs.Counts.{counts_of}
use Rattle.job.proofs.head.wrong_offset.Goals as goal

pub returns-then-differs : goal.returns-then-differs
unfolding wrong_offset among when or_else
returns-then-differs c = rw (← c.differs.ensures, c.if-differs.true)

pub returns-then-differs-2 : goal.returns-then-differs-2
unfolding wrong_offset among when or_else
returns-then-differs-2 c =
    rw (← c.requires.1, ← c.differs.ensures, c.if-differs.false, ← c.table_offset.ensures.0, ← c.differs-2.ensures, c.if-differs-2.true)

pub returns-then-differs-3 : goal.returns-then-differs-3
unfolding wrong_offset among when or_else
returns-then-differs-3 c =
    rw (← c.requires.1, ← c.differs.ensures, c.if-differs.false, ← c.table_offset.ensures.0, ← c.differs-2.ensures, c.if-differs-2.false, ← c.ops_offset.ensures.0, ← c.differs-3.ensures, c.if-differs-3.true)

pub returns-then-differs-4 : goal.returns-then-differs-4
unfolding among when or_else wrong_offset
returns-then-differs-4 c =
    let past : let a = c.args in
    let k = counts_of a.h in
    let b = a.job.now in
    wrong_offset b
    ≡ among (when (not (eqb (long b 24) (turns_offset k))) 24 ∷ when (not (eqb (long b 28) (total k)) || not (eqb (length b) (total k))) 28 ∷ []) = rw (← c.requires.1, ← c.differs.ensures, c.if-differs.false, ← c.table_offset.ensures.0, ← c.differs-2.ensures, c.if-differs-2.false, ← c.ops_offset.ensures.0, ← c.differs-3.ensures, c.if-differs-3.false) in
    rw (past, ← c.turns_offset.ensures.0, ← c.differs-4.ensures, c.if-differs-4.true)

pub returns-then-differs-5 : goal.returns-then-differs-5
unfolding among when or_else wrong_offset
returns-then-differs-5 c =
    let past : let a = c.args in
    let k = counts_of a.h in
    let b = a.job.now in
    wrong_offset b
    ≡ among (when (not (eqb (long b 24) (turns_offset k))) 24 ∷ when (not (eqb (long b 28) (total k)) || not (eqb (length b) (total k))) 28 ∷ []) = rw (← c.requires.1, ← c.differs.ensures, c.if-differs.false, ← c.table_offset.ensures.0, ← c.differs-2.ensures, c.if-differs-2.false, ← c.ops_offset.ensures.0, ← c.differs-3.ensures, c.if-differs-3.false) in
    elim c.then-differs-5.either [
      | inl e ↦ rw (past, ← c.turns_offset.ensures.0, ← c.differs-4.ensures, c.if-differs-4.false, ← c.total-total.ensures.0, ← c.differs-5.ensures, e)
      | inr e ↦ rw (past, ← c.turns_offset.ensures.0, ← c.differs-4.ensures, c.if-differs-4.false, ← c.total-total.ensures.0, ← c.differs-5.ensures, e.0, ne_eqb _ _ e.1)
    ]

pub returns : goal.returns
unfolding among when or_else wrong_offset
returns c =
    let past : let a = c.args in
    let k = counts_of a.h in
    let b = a.job.now in
    wrong_offset b
    ≡ among (when (not (eqb (long b 24) (turns_offset k))) 24 ∷ when (not (eqb (long b 28) (total k)) || not (eqb (length b) (total k))) 28 ∷ []) = rw (← c.requires.1, ← c.differs.ensures, c.if-differs.false, ← c.table_offset.ensures.0, ← c.differs-2.ensures, c.if-differs-2.false, ← c.ops_offset.ensures.0, ← c.differs-3.ensures, c.if-differs-3.false) in
    rw (past, ← c.turns_offset.ensures.0, ← c.differs-4.ensures, c.if-differs-4.false, ← c.total-total.ensures.0, ← c.differs-5.ensures, c.if-differs-5.false, eq-eqb _ _ c.if-job-total.false)
