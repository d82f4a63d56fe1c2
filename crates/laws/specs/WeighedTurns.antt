-- The claim on turns used weighed, as Weighed does for the others: each field of `TurnsWithin` as a test that computes, and jobs on which every test
-- passes. For each field there is a changed definition under which its test fails (tests/edits).
-- That a test that fails refutes the claim is proved in RefutesTurns.
use Rattle.std.specs.Prelude.{ℕ, refl, List, [], ◌∷◌, ◌++◌, Bool, length, leb, eqb}
use Rattle.spec.specs.declared.Kind.TheVariants.{Insert, Delete}
use Rattle.spec.specs.Job.{Job}
use Rattle.spec.specs.Decode.{job_of}
use Rattle.spec.specs.Result.{Result}
use Rattle.spec.specs.Claims.{answer_at}
use Rattle.spec.specs.MostTurns.{longest, most_turns, sharp_turns, most_used, under, used_by, kind_at}
use Rattle.spec.specs.Counted.{job_flat, job_teased}
use Rattle.spec.specs.Opened.{opened}
use Rattle.laws.specs.Weighed.{every, PassesOn, op, call, one_page, times_of, tested}

-- what operation i has used when its job's own list is over
abbrev pub used_at : Job → ℕ → ℕ
used_at j i = used_by j j.turns i

-- The fields, in the claim's order, of a job and a result.
-- does no operation use more than is asked?
unfoldable pub most : Job → Result → Bool
most j r = every (length j.ops) (λ i. leb (used_at j i) (most_turns j.file.g (kind_at j i)))

-- nor more than is reached?
unfoldable pub sharp : Job → Result → Bool
sharp j r = every (length j.ops) (λ i. leb (used_at j i) (sharp_turns j.file.g (kind_at j i)))

-- nor more than 294?
unfoldable pub narrow : Job → Result → Bool
narrow j r = every (length j.ops) (λ i. leb (used_at j i) most_used)

-- are the counts those in the result, and none of them more than is asked?
unfoldable pub counts : Job → Result → Bool
counts j r = every (length j.ops) (λ i. eqb (answer_at r i).used (used_at j i))

unfoldable pub told : Job → Result → Bool
told j r = every (length j.ops) (λ i. leb (answer_at r i).used (most_turns j.file.g (kind_at j i)))

-- Operations that use as many turns as any; and an insert that waits for 300 turns while a delete holds the page
abbrev waiting : Job
waiting =
    one_page (call 2 50 ∷ []) (op Delete 2 0 ∷ op Insert 4 90 ∷ []) (times_of 2 0 ++ times_of 301 1 ++ times_of 4 0 ++ times_of 5 1)

abbrev jobs : List Job
jobs = job_of job_flat ∷ job_of job_teased ∷ waiting ∷ []

most_passes : PassesOn jobs most
unfolding opened tested under longest most_turns most
most_passes = refl

sharp_passes : PassesOn jobs sharp
unfolding opened tested under sharp_turns sharp
sharp_passes = refl

narrow_passes : PassesOn jobs narrow
unfolding opened tested under narrow
narrow_passes = refl

counts_passes : PassesOn jobs counts
unfolding opened tested under counts
counts_passes = refl

told_passes : PassesOn jobs told
unfolding opened tested under longest most_turns told
told_passes = refl
