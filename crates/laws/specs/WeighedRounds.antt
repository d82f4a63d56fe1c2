-- The claim on rounds weighed, as Weighed does for the others: the fields of `GetsDone` as tests that compute, tried with every operation in turn, and
-- jobs on which every test passes. For each of these fields there is a changed definition under which its test fails (tests/edits): among them
-- machines that keep a lock, under which rounds no longer finish everybody.
-- That a test that fails refutes the claim is proved in RefutesRounds. (`fewer` and `in_turns` have no test: they hold whatever the machine is, and the
-- tests rest on the second.)
use Rattle.std.specs.Prelude.{ℕ, ◌*◌, refl, List, [], ◌∷◌, ◌++◌, Bool, false, not, ◌&&◌, ◌||◌, length, eqb, Option, None, Some}
use Rattle.spec.specs.declared.Rec.{Rec}
use Rattle.spec.specs.declared.Op.{Op}
use Rattle.spec.specs.declared.Kind.TheVariants.{Search, Insert, Delete}
use Rattle.spec.specs.Code.{not_yet}
use Rattle.spec.specs.Job.{Job}
use Rattle.spec.specs.Encode.{encode_file}
use Rattle.spec.specs.Run.{stage_of, run}
use Rattle.spec.specs.Result.{Result}
use Rattle.spec.specs.Claims.{answer_at}
use Rattle.spec.specs.MostTurns.{longest, most_turns, sharp_turns, under, kind_at}
use Rattle.spec.specs.Rounds.{below, in_turn, most_rounds, all_turns, sharp_rounds}
use Rattle.spec.specs.Opened.{opened}
use Rattle.laws.specs.Weighed.{every, same, is_done, is_search, PassesOn, op, call, one_page, tested}

-- k rounds: every operation of the job in turn
abbrev pub turns_of : Job → ℕ → List ℕ
turns_of j k = in_turn (length j.ops) k

-- is operation i finished under the list?
unfoldable pub done_under : Job → List ℕ → ℕ → Bool
done_under j ts i = is_done (stage_of (under j ts) i)

-- The fields, in the claim's order, of a job and a result.
-- are all finished after as many rounds as are asked? After as many as are enough?
unfoldable pub finish : Job → Result → Bool
finish j r = every (length j.ops) (done_under j (turns_of j (most_rounds j)))

unfoldable pub sooner : Job → Result → Bool
sooner j r = every (length j.ops) (done_under j (turns_of j (sharp_rounds j)))

-- and a search after as many as it can use turns?
unfoldable pub searches : Job → Result → Bool
searches j r =
    every (length j.ops) (λ i. not (is_search (kind_at j i)) || done_under j (turns_of j (most_turns j.file.g Search)) i)

-- does whoever is finished then stay so for one round more?
unfoldable pub stay : Job → Result → Bool
stay j r =
    let ts : List ℕ = turns_of j (sharp_rounds j) in
    every (length j.ops) (λ i. not (done_under j ts i) || done_under j (ts ++ below (length j.ops)) i)

-- has the result every answer? Is none under way, and is there a charge file, the file after the last turn?
unfoldable pub same_bytes : Option (List ℕ) → List ℕ → Bool
same_bytes None c = false
same_bytes (Some b) c = same eqb b c

unfoldable pub lacks_nothing : Job → Result → Bool
lacks_nothing j r =
    every (length j.ops) (λ i. not (eqb (answer_at r i).code not_yet))
    && eqb r.unended 0
    && same_bytes r.file (encode_file (run j).file)

-- is it so of a job whose own list finishes every operation? Of one whose own list is as many rounds as are asked?
unfoldable pub complete : Job → Result → Bool
complete j r = not (every (length j.ops) (λ i. is_done (stage_of (run j) i))) || lacks_nothing j r

unfoldable pub answers : Job → Result → Bool
answers j r = not (same eqb j.turns (turns_of j (most_rounds j))) || lacks_nothing j r

-- Jobs, each with as many rounds as are asked for its own list.
abbrev rounds : List Rec → List Op → Job
rounds rs ops = one_page rs ops (in_turn (length ops) (length ops * longest 1))

-- a page with room, which the delete waits for while the insert holds it; the search does not wait
abbrev shared : Job
shared = rounds (call 2 50 ∷ []) (op Insert 4 90 ∷ op Delete 2 0 ∷ op Search 4 0 ∷ [])

-- a full page: the insert splits it, the second insert has to let it go for the new page, and the delete waits for both
abbrev let_go : Job
let_go = rounds (call 3 70 ∷ call 5 20 ∷ call 7 50 ∷ []) (op Insert 4 90 ∷ op Insert 1 10 ∷ op Delete 7 0 ∷ [])

-- the same insert alone: it uses as many turns as it can, one in each round
abbrev alone : Job
alone = rounds (call 3 70 ∷ call 5 20 ∷ call 7 50 ∷ []) (op Insert 4 90 ∷ [])

abbrev jobs : List Job
jobs = shared ∷ let_go ∷ alone ∷ rounds [] [] ∷ []

unfoldable asked : Unit {0}
unfolding opened tested under longest most_turns sharp_turns below in_turn all_turns done_under same_bytes lacks_nothing
asked = tt

finish_passes : PassesOn jobs finish
unfolding asked finish
finish_passes = refl

sooner_passes : PassesOn jobs sooner
unfolding asked sooner
sooner_passes = refl

searches_passes : PassesOn jobs searches
unfolding asked searches
searches_passes = refl

stay_passes : PassesOn jobs stay
unfolding asked stay
stay_passes = refl

complete_passes : PassesOn jobs complete
unfolding asked complete
complete_passes = refl

answers_passes : PassesOn jobs answers
unfolding asked answers
answers_passes = refl
