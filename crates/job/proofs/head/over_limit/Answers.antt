use mathlib.Core.Path.{◌≡◌}
use mathlib.Core.List.{[], ◌∷◌}
use Rattle.spec.specs.Basics.{when, or_else, among}
use Rattle.spec.specs.Job.{used_at, min_ops, max_ops, op_count_at, min_turns, max_turns, turn_count_at}
use Rattle.spec.specs.Check.{outside, over_limit}
use Rattle.job.proofs.head.over_limit.Goals as goal

pub returns-then-is_outside : goal.returns-then-is_outside
unfolding over_limit among when or_else
returns-then-is_outside c = rw (← c.requires, ← c.is_outside.ensures, c.if-is_outside.true)

pub returns-then-is_outside-2 : goal.returns-then-is_outside-2
unfolding over_limit among when or_else
returns-then-is_outside-2 c =
    rw (← c.requires, ← c.is_outside.ensures, c.if-is_outside.false, ← c.is_outside-2.ensures, c.if-is_outside-2.true)

pub returns-then-is_outside-3 : goal.returns-then-is_outside-3
unfolding over_limit among when or_else
returns-then-is_outside-3 c =
    rw (← c.requires, ← c.is_outside.ensures, c.if-is_outside.false, ← c.is_outside-2.ensures, c.if-is_outside-2.false, ← c.is_outside-3.ensures, c.if-is_outside-3.true)

pub returns-then-is_outside-4 : goal.returns-then-is_outside-4
unfolding among when or_else over_limit
returns-then-is_outside-4 c =
    let past : let a = c.args in
    over_limit a.job.now
    ≡ among
    (when (outside 1 a.h.pages a.h.used) used_at
    ∷ when (outside min_ops max_ops a.h.ops) op_count_at
    ∷ when (outside min_turns max_turns a.h.turns) turn_count_at
    ∷ []) = rw (← c.requires, ← c.is_outside.ensures, c.if-is_outside.false, ← c.is_outside-2.ensures, c.if-is_outside-2.false, ← c.is_outside-3.ensures, c.if-is_outside-3.false) in
    rw (past, ← c.is_outside-4.ensures, c.if-is_outside-4.true)

pub returns-then-is_outside-5 : goal.returns-then-is_outside-5
unfolding among when or_else over_limit
returns-then-is_outside-5 c =
    let past : let a = c.args in
    over_limit a.job.now
    ≡ among
    (when (outside 1 a.h.pages a.h.used) used_at
    ∷ when (outside min_ops max_ops a.h.ops) op_count_at
    ∷ when (outside min_turns max_turns a.h.turns) turn_count_at
    ∷ []) = rw (← c.requires, ← c.is_outside.ensures, c.if-is_outside.false, ← c.is_outside-2.ensures, c.if-is_outside-2.false, ← c.is_outside-3.ensures, c.if-is_outside-3.false) in
    rw (past, ← c.is_outside-4.ensures, c.if-is_outside-4.false, ← c.is_outside-5.ensures, c.if-is_outside-5.true)

pub returns-then-is_outside-6 : goal.returns-then-is_outside-6
unfolding among when or_else over_limit
returns-then-is_outside-6 c =
    let past : let a = c.args in
    over_limit a.job.now
    ≡ among
    (when (outside 1 a.h.pages a.h.used) used_at
    ∷ when (outside min_ops max_ops a.h.ops) op_count_at
    ∷ when (outside min_turns max_turns a.h.turns) turn_count_at
    ∷ []) = rw (← c.requires, ← c.is_outside.ensures, c.if-is_outside.false, ← c.is_outside-2.ensures, c.if-is_outside-2.false, ← c.is_outside-3.ensures, c.if-is_outside-3.false) in
    rw (past, ← c.is_outside-4.ensures, c.if-is_outside-4.false, ← c.is_outside-5.ensures, c.if-is_outside-5.false, ← c.is_outside-6.ensures, c.if-is_outside-6.true)

pub returns : goal.returns
unfolding among when or_else over_limit
returns c =
    let past : let a = c.args in
    over_limit a.job.now
    ≡ among
    (when (outside 1 a.h.pages a.h.used) used_at
    ∷ when (outside min_ops max_ops a.h.ops) op_count_at
    ∷ when (outside min_turns max_turns a.h.turns) turn_count_at
    ∷ []) = rw (← c.requires, ← c.is_outside.ensures, c.if-is_outside.false, ← c.is_outside-2.ensures, c.if-is_outside-2.false, ← c.is_outside-3.ensures, c.if-is_outside-3.false) in
    rw (past, ← c.is_outside-4.ensures, c.if-is_outside-4.false, ← c.is_outside-5.ensures, c.if-is_outside-5.false, ← c.is_outside-6.ensures, c.if-is_outside-6.false)
