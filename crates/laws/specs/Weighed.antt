-- The claims weighed: each field of `Explained` and of `InOrder` as a test that computes, and small jobs on which every test passes, with the
-- result that is read from the bytes that are written.
-- For each field there is a changed definition under which its test fails on one of these jobs (tests/edits), so no field is there for nothing.
-- That a test is true where its field holds is proved in Refutes: a test that fails refutes the claim. `PagesTold` is weighed in WeighedPages.
use Rattle.std.specs.Prelude.{ℕ, zero, suc, ◌≡◌, refl, List, [], ◌∷◌, ◌++◌, map, Bool, true, false, not, ◌&&◌, ◌||◌, length, get_or, replicate, ltb, eqb, Option, None, Some}
use Rattle.spec.specs.declared.Rec.{Rec}
use Rattle.spec.specs.declared.Op.{Op}
use Rattle.spec.specs.declared.Kind.{Kind}
use Rattle.spec.specs.declared.Kind.TheVariants.{Search, Insert, Delete}
use Rattle.spec.specs.declared.Stage.{Stage}
use Rattle.spec.specs.declared.Stage.TheVariants.{NotBegun, ReadPage, Reread, Lock, Held, Split, Done}
use Rattle.spec.specs.Basics.{all_of}
use Rattle.spec.specs.Code.{not_yet, no_depth, no_page}
use Rattle.spec.specs.File.{Page, File, zero_page, page_at, find_in, look_in, contents}
use Rattle.spec.specs.Job.{Job, no_op}
use Rattle.spec.specs.Decode.{job_of}
use Rattle.spec.specs.State.{State}
use Rattle.spec.specs.Run.{idle, stage_of, run}
use Rattle.spec.specs.Result.{Line, Result, result, encode_result, read_result}
use Rattle.spec.specs.PlainList.{Reply, reply_of}
use Rattle.spec.specs.Check.{job_fault}
use Rattle.spec.specs.Claims.{state_at, times, line_at, answer_at, op_at, fed}
use Rattle.spec.specs.Worked.{job_b, job_c, job_insert, job_g}
use Rattle.spec.specs.Opened.{opened}
use Rattle.laws.specs.Tools.{is_some}

-- the test holds of 0, 1, .., n - 1; it holds of one of them
unfoldable pub every : ℕ → (ℕ → Bool) → Bool
every zero f = true
every (suc n) f = f zero && every n (λ i. f (suc i))

abbrev pub some_of : ℕ → (ℕ → Bool) → Bool
some_of n f = not (every n (λ i. not (f i)))

unfoldable pub same_rec : Rec → Rec → Bool
same_rec a b = eqb a.call b.call && eqb a.charge b.charge

unfoldable pub same_found : Option Rec → Option Rec → Bool
same_found None None = true
same_found None (Some b) = false
same_found (Some a) None = false
same_found (Some a) (Some b) = same_rec a b

unfoldable pub same_reply : Reply → Reply → Bool
same_reply a b = eqb a.code b.code && eqb a.charge b.charge

-- two lists are the same, by a test for two members
unfoldable pub same : {A : Type 0} → (A → A → Bool) → List A → List A → Bool
same f [] [] = true
same f [] (b ∷ bs) = false
same f (a ∷ rest) [] = false
same f (a ∷ rest) (b ∷ bs) = f a b && same f rest bs

unfoldable pub member : Rec → List Rec → Bool
member r [] = false
member r (a ∷ rest) = same_rec a r || member r rest

unfoldable pub none_twice : List Rec → Bool
none_twice [] = true
none_twice (r ∷ rs) = not (is_some (find_in rs r.call)) && none_twice rs

unfoldable pub calls_rise : List Rec → Bool
calls_rise [] = true
calls_rise (r ∷ rs) = all_of (λ a. ltb r.call a.call) rs && calls_rise rs

unfoldable pub same_page : Page → Page → Bool
same_page p q = eqb p.depth q.depth && eqb p.pattern q.pattern && same same_rec p.records q.records

unfoldable pub same_file : File → File → Bool
same_file f h =
    eqb f.g h.g
    && eqb f.c h.c
    && eqb f.limit h.limit
    && eqb f.used h.used
    && same eqb f.directory h.directory
    && same same_page f.table h.table

-- the bytes of a charge file, where there is one: accepted as a job, which has no operations and no turns, and is this file
unfoldable pub is_file : Option (List ℕ) → File → Bool
is_file None h = true
is_file (Some b) h =
    not (is_some (job_fault b))
    && same_file (job_of b).file h
    && eqb (length (job_of b).ops) 0
    && eqb (length (job_of b).turns) 0

unfoldable pub is_done : Stage → Bool
is_done NotBegun = false
is_done (ReadPage x) = false
is_done (Reread x t) = false
is_done (Lock x) = false
is_done (Held x t) = false
is_done (Split x b n q) = false
is_done Done = true

unfoldable pub is_search : Kind → Bool
is_search Search = true
is_search Insert = false
is_search Delete = false

unfoldable pub waits : State → ℕ → Bool
waits s i = not (is_done (stage_of s i)) && idle s.locks (stage_of s i)

-- turn t finished operation i; turn t is the first that names it
unfoldable pub ended : Job → ℕ → ℕ → Bool
ended j i t = not (is_done (stage_of (state_at j t) i)) && is_done (stage_of (state_at j (suc t)) i)

unfoldable pub first : Job → ℕ → ℕ → Bool
first j i t = eqb (get_or j.turns t 0) i && every t (λ u. not (eqb (get_or j.turns u 0) i))

abbrev pub code_of : Result → ℕ → ℕ
code_of r i = (answer_at r i).code

-- The fields, in the claim's order, of a job and a result.
unfoldable pub count : Job → Result → Bool
count j r = eqb (length r.answers) (length j.ops)

unfoldable pub answers : Job → Result → Bool
answers j r = same same_reply (fed j r (length r.log)).replies (map (λ h. reply_of (answer_at r h.op)) r.log)

unfoldable pub refused : Job → Result → Bool
refused j r =
    every (length r.log)
    (λ p.
    not (eqb (code_of r (line_at r p).op) no_depth || eqb (code_of r (line_at r p).op) no_page)
    || (not (is_some (find_in (fed j r p).list (op_at j r p).call)) && same same_rec (fed j r (suc p)).list (fed j r p).list))

unfoldable pub once : Job → Result → Bool
once j r = every (length j.ops) (λ i. eqb (code_of r i) not_yet || eqb (times i r.log) 1)

unfoldable pub no_other : Job → Result → Bool
no_other j r = every (length j.ops) (λ i. not (eqb (code_of r i) not_yet) || eqb (times i r.log) 0)

unfoldable pub precedes : Line → Line → Bool
precedes a b = ltb a.moment b.moment || (eqb a.moment b.moment && ltb a.op b.op)

unfoldable pub sorted : Job → Result → Bool
sorted j r = every (length r.log) (λ q. every q (λ p. precedes (line_at r p) (line_at r q)))

unfoldable pub held : Job → Result → Bool
held j r =
    let list : List Rec = (fed j r (length r.log)).list in
    let file : List Rec = contents (run j).file in
    all_of (λ c. member c file) list && all_of (λ c. member c list) file

unfoldable pub charged : Job → Result → Bool
charged j r = is_file r.file (run j).file

unfoldable pub list_once : Job → Result → Bool
list_once j r = every (suc (length r.log)) (λ n. none_twice (fed j r n).list)

unfoldable pub file_once : Job → Result → Bool
file_once j r = every (suc (length j.turns)) (λ t. none_twice (contents (state_at j t).file))

-- no line's operation ended before the first turn of the operation of a line that stands no later
unfoldable pub order : Job → Result → Bool
order j r =
    every (length r.log)
    (λ q.
    every (suc q)
    (λ p.
    every (length j.turns) (λ u. not (first j (line_at r p).op u) || every u (λ t. not (ended j (line_at r q).op t)))))

unfoldable pub searches : Job → Result → Bool
searches j r =
    every (suc (length j.turns))
    (λ t. every (length j.ops) (λ i. not (is_search (get_or j.ops i no_op).kind && waits (state_at j t) i)))

unfoldable pub progress_at : State → ℕ → Bool
progress_at s m = every m (λ i. is_done (stage_of s i)) || some_of m (λ k. not (is_done (stage_of s k)) && not (waits s k))

unfoldable pub progress : Job → Result → Bool
progress j r = every (suc (length j.turns)) (λ t. progress_at (state_at j t) (length j.ops))

unfoldable pub finished : Job → Result → Bool
finished j r = every (length j.ops) (λ i. not (is_done (stage_of (run j) i)) || not (eqb (code_of r i) not_yet))

-- the fields of the other claim: at every time, of the records of every page
unfoldable pub of_pages : Job → (List Rec → Bool) → Bool
of_pages j test =
    every (suc (length j.turns)) (λ t. every (length (state_at j t).file.table) (λ x. test (page_at (state_at j t).file x).records))

unfoldable pub pages_rise : Job → Result → Bool
pages_rise j r = of_pages j calls_rise

-- tried for the calls of the operations
unfoldable pub looks : Job → Result → Bool
looks j r = of_pages j (λ rs. all_of (λ (o : Op). same_found (look_in rs o.call) (find_in rs o.call)) j.ops)

abbrev pub op : Kind → ℕ → ℕ → Op
op k n c = record { kind = k; call = n; charge = c }

abbrev pub call : ℕ → ℕ → Rec
call k c = record { call = k; charge = c }

-- a file of depth 1 and capacity 3 with one page in use of two
abbrev pub one_page : List Rec → List Op → List ℕ → Job
one_page rs ops turns =
    record {
      file =
          record {
            g = 1;
            c = 3;
            limit = 2;
            used = 1;
            directory = 1 ∷ 1 ∷ [];
            table = zero_page ∷ record { depth = 0; pattern = 0; records = rs } ∷ zero_page ∷ [];
          };
      ops = ops;
      turns = turns;
    }

-- n turns for operation i
abbrev pub times_of : ℕ → ℕ → List ℕ
times_of n i = replicate n i

-- a full page. Calls 3 and 5 begin with bit 1, as call 1 does, and call 7 with bit 0, as call 4 does
abbrev full : List Rec
full = call 3 70 ∷ call 5 20 ∷ call 7 50 ∷ []

-- a search and two inserts into a page with room, the second waiting behind the first; then a search
abbrev roomy : Job
roomy =
    one_page (call 2 50 ∷ []) (op Search 2 0 ∷ op Insert 4 90 ∷ op Insert 2 60 ∷ op Search 4 0 ∷ [])
    (times_of 2 0 ++ times_of 2 1 ++ times_of 2 2 ++ times_of 4 1 ++ times_of 5 2 ++ times_of 3 3)

-- a search reads its entry, the page is split, and the search reads the page then
abbrev late_reader : Job
late_reader = one_page full (op Insert 4 90 ∷ op Search 3 0 ∷ []) (times_of 1 1 ++ times_of 9 0 ++ times_of 4 1)

-- an insert reads its entry, the page is split, and the insert locks the page then
abbrev late_writer : Job
late_writer = one_page full (op Insert 4 90 ∷ op Insert 1 10 ∷ []) (times_of 1 1 ++ times_of 9 0 ++ times_of 8 1)

-- the same with a delete, and another delete on the page that it let go
abbrev released : Job
released =
    one_page full (op Insert 4 90 ∷ op Delete 3 0 ∷ op Delete 7 0 ∷ []) (times_of 1 1 ++ times_of 9 0 ++ times_of 8 1 ++ times_of 2 2)

-- a search between the first turn that writes and the others
abbrev between : Job
between = one_page full (op Insert 4 90 ∷ op Search 3 0 ∷ []) (times_of 5 0 ++ times_of 3 1 ++ times_of 4 0)

-- a delete from the middle of a page
abbrev taken : Job
taken = one_page full (op Delete 5 0 ∷ []) (times_of 6 0)

-- two inserts of one call come to a new page before the split is done
abbrev two_writers : Job
two_writers =
    one_page full (op Insert 4 90 ∷ op Insert 1 10 ∷ op Insert 1 11 ∷ [])
    (times_of 6 0 ++ times_of 4 1 ++ times_of 1 0 ++ times_of 4 2 ++ times_of 2 1 ++ times_of 2 2 ++ times_of 2 0)

-- two bursars strike out a call, each only at the charge that they saw: it is there at the charge of the second, who has to wait for the page. Another
-- call, which is there at charge zero, is not struck out at the charge of the first
abbrev bursars_for : List ℕ → Job
bursars_for turns = one_page (call 2 50 ∷ call 3 0 ∷ []) (op Delete 2 60 ∷ op Delete 2 50 ∷ op Delete 3 60 ∷ []) turns

abbrev bursars : Job
bursars = bursars_for (times_of 2 0 ++ times_of 2 1 ++ times_of 4 0 ++ times_of 5 1 ++ times_of 6 2)

-- the same, stopped on turn (d) of the first
abbrev bursars_stopped : Job
bursars_stopped = bursars_for (times_of 2 0 ++ times_of 2 1 ++ times_of 2 0)

-- job E; job E stopped after 7 turns; an insert told "no page"; one whose call is there; one that goes to a new page; and those above
abbrev jobs : List Job
jobs =
    job_of job_b
    ∷ job_of job_g
    ∷ job_of (job_insert 3)
    ∷ job_of (job_insert 1)
    ∷ job_of job_c
    ∷ roomy
    ∷ late_reader
    ∷ late_writer
    ∷ released
    ∷ between
    ∷ two_writers
    ∷ taken
    ∷ bursars
    ∷ bursars_stopped
    ∷ []

-- each with the result that is read from what is written
abbrev pub PassesOn : List Job → (Job → Result → Bool) → Type 0
PassesOn js test = map (λ (j : Job). test j (read_result (encode_result (result j)))) js ≡ map (λ (j : Job). true) js

abbrev pub Passes : (Job → Result → Bool) → Type 0
Passes test = PassesOn jobs test

-- opens the tests, and what they ask, for a proof by computation
unfoldable pub tested : Unit {0}
unfolding is_some state_at times answer_at fed every same_rec same_found same_reply same member none_twice calls_rise of_pages same_page same_file is_file is_done is_search waits ended first precedes progress_at
tested = tt

count_passes : Passes count
unfolding opened tested count
count_passes = refl

answers_passes : Passes answers
unfolding opened tested answers
answers_passes = refl

refused_passes : Passes refused
unfolding opened tested refused
refused_passes = refl

once_passes : Passes once
unfolding opened tested once
once_passes = refl

no_other_passes : Passes no_other
unfolding opened tested no_other
no_other_passes = refl

sorted_passes : Passes sorted
unfolding opened tested sorted
sorted_passes = refl

held_passes : Passes held
unfolding opened tested held
held_passes = refl

charged_passes : Passes charged
unfolding opened tested charged
charged_passes = refl

list_once_passes : Passes list_once
unfolding opened tested list_once
list_once_passes = refl

file_once_passes : Passes file_once
unfolding opened tested file_once
file_once_passes = refl

order_passes : Passes order
unfolding opened tested order
order_passes = refl

searches_passes : Passes searches
unfolding opened tested searches
searches_passes = refl

progress_passes : Passes progress
unfolding opened tested progress
progress_passes = refl

finished_passes : Passes finished
unfolding opened tested finished
finished_passes = refl

pages_rise_passes : Passes pages_rise
unfolding opened tested pages_rise
pages_rise_passes = refl

looks_passes : Passes looks
unfolding opened tested looks
looks_passes = refl
