-- The claim on turns dealt weighed, as Weighed does for the others: each field of `DealtWell` and of `DealtWritten` as a test that computes, of the
-- bytes of a job, and jobs on which every test passes. For each field there is a changed definition under which its test fails (tests/edits).
-- That a test that fails refutes the claim is proved in RefutesDealt. Who is finished is told by Weighed's own test and not by Deal's: what weighs
-- the claims must not move with the definitions.
use Rattle.std.specs.Prelude.{ℕ, ◌+◌, ◌-◌, ◌*◌, ◌≡◌, refl, List, [], ◌∷◌, ◌++◌, map, Bool, true, not, ◌||◌, length, get_or, take, drop, replicate, leb, eqb}
use Rattle.spec.specs.declared.Rec.{Rec}
use Rattle.spec.specs.declared.Op.{Op}
use Rattle.spec.specs.declared.Kind.TheVariants.{Insert, Delete}
use Rattle.spec.specs.Basics.{each}
use Rattle.spec.specs.Bytes.{two, four}
use Rattle.spec.specs.Job.{Job, header_size, turn_count_at, total_at, turn_size}
use Rattle.spec.specs.Encode.{encode_job}
use Rattle.spec.specs.Decode.{job_of}
use Rattle.spec.specs.State.{State}
use Rattle.spec.specs.Run.{stage_of, run}
use Rattle.spec.specs.Result.{read_result}
use Rattle.spec.specs.Check.{job_fault}
use Rattle.spec.specs.Outcome.{result_bytes}
use Rattle.spec.specs.Deal.{max_dealt, dealt_by, dealt, dealt_job, dealt_bytes}
use Rattle.spec.specs.Claims.{state_at}
use Rattle.spec.specs.Worked.{job_h}
use Rattle.spec.specs.Opened.{opened}
use Rattle.laws.specs.Tools.{is_some}
use Rattle.laws.specs.Weighed.{every, same, is_done, waits, op, call, one_page, tested}
use Rattle.laws.specs.WeighedRounds.{same_bytes, lacks_nothing}

-- the test holds of every turn of the job's list: of the state before it, and the operation that it names
unfoldable pub every_turn : Job → (State → ℕ → Bool) → Bool
every_turn j test = every (length j.turns) (λ t. test (state_at j t) (get_or j.turns t 0))

-- The fields, in the claim's order.
-- does no turn wait? Is none for a finished operation?
unfoldable pub no_wait : List ℕ → Bool
no_wait b = every_turn (dealt_job (job_of b)) (λ s i. not (waits s i))

unfoldable pub unfinished : List ℕ → Bool
unfinished b = every_turn (dealt_job (job_of b)) (λ s i. not (is_done (stage_of s i)))

-- are there no more turns than are allowed?
unfoldable pub fits : List ℕ → Bool
fits b = leb (length (dealt (job_of b))) max_dealt

-- have all finished in the end?
unfoldable pub done : List ℕ → Bool
done b = every (length (job_of b).ops) (λ i. is_done (stage_of (run (dealt_job (job_of b))) i))

-- would twice as many rounds deal the same?
unfoldable pub whole : List ℕ → Bool
whole b = same eqb (dealt_by (2 * max_dealt) (job_of b)) (dealt (job_of b))

-- are there none where there is no operation?
unfoldable pub empty : List ℕ → Bool
empty b = not (eqb (length (job_of b).ops) 0) || eqb (length (dealt (job_of b))) 0

-- is what is written accepted? Does it say the same job with the list? (Jobs are compared as their bytes.)
unfoldable pub accepted : List ℕ → Bool
accepted b = not (is_some (job_fault (dealt_bytes b)))

unfoldable pub says : List ℕ → Bool
says b = same eqb (encode_job (job_of (dealt_bytes b))) (encode_job (dealt_job (job_of b)))

-- is it, byte for byte, what was given but for the turn count and the total, with the list behind it?
unfoldable pub bytes : List ℕ → Bool
bytes b =
    let ts : List ℕ = dealt (job_of b) in
    same eqb (dealt_bytes b)
    (take turn_count_at b
    ++ two (length ts)
    ++ take (total_at - (turn_count_at + 2)) (drop (turn_count_at + 2) b)
    ++ four (length b + turn_size * length ts)
    ++ drop header_size b
    ++ each two ts)

-- does its result lack nothing?
unfoldable pub complete : List ℕ → Bool
complete b = lacks_nothing (dealt_job (job_of b)) (read_result (result_bytes (dealt_bytes b) ++ []))

-- Jobs without turns, as bytes.
abbrev unturned : List Rec → List Op → List ℕ
unturned rs ops = encode_job (one_page rs ops [])

-- a full page: the insert splits it, the second insert has to let it go for the new page, and the delete waits for both
abbrev let_go : List ℕ
let_go = unturned (call 3 70 ∷ call 5 20 ∷ call 7 50 ∷ []) (op Insert 4 90 ∷ op Insert 1 10 ∷ op Delete 7 0 ∷ [])

-- seven deletes wait for one page, one after another: 23 rounds
abbrev queue : List ℕ
queue = unturned (call 2 50 ∷ []) (replicate 7 (op Delete 9 0))

-- job E without its turns; those; and a charge file
abbrev jobs : List (List ℕ)
jobs = job_h ∷ let_go ∷ queue ∷ unturned (call 2 50 ∷ []) [] ∷ []

abbrev Passes : (List ℕ → Bool) → Type 0
Passes test = map test jobs ≡ map (λ (b : List ℕ). true) jobs

unfoldable asked : Unit {0}
unfolding opened tested every_turn same_bytes lacks_nothing
asked = tt

no_wait_passes : Passes no_wait
unfolding asked no_wait
no_wait_passes = refl

unfinished_passes : Passes unfinished
unfolding asked unfinished
unfinished_passes = refl

fits_passes : Passes fits
unfolding asked fits
fits_passes = refl

done_passes : Passes done
unfolding asked done
done_passes = refl

whole_passes : Passes whole
unfolding asked whole
whole_passes = refl

empty_passes : Passes empty
unfolding asked empty
empty_passes = refl

accepted_passes : Passes accepted
unfolding asked accepted
accepted_passes = refl

says_passes : Passes says
unfolding asked says
says_passes = refl

bytes_passes : Passes bytes
unfolding asked bytes
bytes_passes = refl

complete_passes : Passes complete
unfolding asked complete
complete_passes = refl
