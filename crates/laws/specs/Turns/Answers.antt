-- The replay of the log on the plain list: line for line it gives the answers of the result, and it ends with what the file holds. On the
-- way no list has a call twice, and an insert told 7 or 8 finds its call missing and changes nothing.
use Rattle.std.specs.Prelude.{ℕ, zero, suc, ◌+◌, ◌<◌, ◌≡◌, refl, ◌⊎◌, Bool, true, false, length, get_or, take, Option, None, Some}
use Rattle.std.proofs.Common.{sym, ap, ◌∙◌, inl, inr, ⊎_elim, arith}
use mathlib.Core.List.{List, [], ◌∷◌, map, tail}
use Rattle.std.proofs.Math.ListN.{get_or-map}
use Rattle.spec.specs.declared.Rec.{Rec}
use Rattle.spec.specs.declared.Op.{Op}
use Rattle.spec.specs.declared.Kind.{Kind}
use Rattle.spec.specs.declared.Kind.TheVariants.{Search, Insert, Delete}
use Rattle.spec.specs.File.{find_in, is_not, without, contents}
use Rattle.spec.specs.Job.{Job, no_op}
use Rattle.spec.specs.Code.{no_depth, no_page}
use Rattle.spec.specs.State.{State, gone}
use Rattle.spec.specs.Run.{row_of, run}
use Rattle.spec.specs.Result.{Told, told_of, Line, lines_from, log_of, Result, result_of, result}
use Rattle.spec.specs.PlainList.{NoneTwice, Plain, turned_down, hint, plain_step, nothing_told, ask_line, Reply, reply_of, Replay, replay}
use Rattle.spec.specs.Proper.{FileOk}
use Rattle.spec.specs.Claims.{no_line}
use Rattle.laws.specs.Tools.{if_case, if-true, if-false}
use Rattle.laws.specs.Turns.Records.{filter_twice, added_twice}
use Rattle.laws.specs.Turns.Lookup.{lookup}
use Rattle.laws.specs.Turns.States.{hist, who, first_turn, state_at_end, state_at-zero, start-file, run_now}
use Rattle.laws.specs.Turns.Whole.{Whole, end_whole}
use Rattle.laws.specs.Turns.Contents.{contents_lookup}
use Rattle.laws.specs.Turns.Replay.{Runs, stop, feed, lines}

-- the plain list asks no more of a code than whether it is 7 or 8
hint_same : (kd : Kind) (op : Op) (o : Option Rec) (k : ℕ) (l : List Rec) → plain_step kd op o (hint k) l ≡ plain_step kd op o k l
unfolding plain_step hint turned_down
hint_same Search op None k l = refl
hint_same Search op (Some r) k l = refl
hint_same Insert op None k l = two (turned_down k) refl
  where
    two : (b : Bool) → turned_down k ≡ b → plain_step Insert op None (hint k) l ≡ plain_step Insert op None k l
    two true e = ap (λ h. plain_step Insert op None h l) (if-true k 0 e)
    two false e = ap (λ h. plain_step Insert op None h l) (if-false k 0 e) ∙ if-false _ _ refl ∙ sym (if-false _ _ e)
hint_same Insert op (Some r) k l = refl
hint_same Delete op None k l = refl
hint_same Delete op (Some r) k l = refl

-- what a result tells, line for line; and the plain list, which starts as what the file held, fed a result's log
abbrev told : List Told → List Line → List Reply
told answers hs = map (λ h. reply_of (get_or answers h.op nothing_told)) hs

abbrev replay_of : Job → Result → Replay
replay_of j r = replay j.ops r.answers r.log (contents j.file)

-- a run of the plain list is its replay
runs_replay
    : {ops : List Op} {s : State} {hs : List Line} {l l' : List Rec} (answers : List Told)
    → ((i : ℕ) → get_or answers i nothing_told ≡ told_of (row_of s i))
    → Runs ops s hs l l'
    → ((replay ops answers hs l).replies ≡ told answers hs) × ((replay ops answers hs l).list ≡ l')
unfolding replay told_of reply_of ask_line
runs_replay answers a stop = (refl, refl)
runs_replay {ops} {l} answers a (feed {h} {hs} e g r) =
    let ih = runs_replay answers a r in
    let op : Op = get_or ops h.op no_op in
    rw (a h.op, hint_same op.kind op (find_in l op.call)) (cc ih.0, ih.1)

-- the answers of a result, row by row
pub answer_at_lem : (s : State) (i : ℕ) → get_or (result_of s).answers i nothing_told ≡ told_of (row_of s i)
unfolding result_of told_of row_of
answer_at_lem s i = get_or-map told_of s.rows i gone

-- For a job whose file is proper, whatever its turn list: the plain list starts as what the file held, is fed the log's operations in log order,
-- and its answers are, line for line, those of the result; at the end it holds of every call what the file holds.
pub replayed
    : (j : Job)
    → FileOk j.file
    → ((replay_of j (result j)).replies ≡ told (result j).answers (result j).log)
    × ((k : ℕ) → find_in (replay_of j (result j)).list k ≡ lookup (run j).file k)
unfolding result result_of log_of
replayed j ok =
    (out.0, λ k. ap (λ l. find_in l k) out.1 ∙ fed.2 k ∙ ap (λ t. hist j t k) all ∙ ap (λ (s : State). lookup s.file k) (state_at_end j))
  where
    w : Whole j (run j)
    w = end_whole j ok

    all : 0 + (run j).now ≡ length j.turns
    all = omega (arith, run_now j)

    first : (k : ℕ) → hist j 0 k ≡ lookup j.file k
    first k = ap (λ (s : State). lookup s.file k) (state_at-zero j) ∙ ap (λ f. lookup f k) (start-file j.file (length j.ops))

    fed
        : (l' : List Rec)
        × Runs j.ops (run j) (lines_from (run j).now 0 (run j).rows) (contents j.file) l'
        × ((k : ℕ) → find_in l' k ≡ hist j (0 + (run j).now) k)
    fed =
        lines (hist j) (who j) (first_turn j.turns) j.ops (run j) w.past.right w.account (run j).now 0 (contents j.file)
        (omega arith)
        (λ k. contents_lookup j.file ok.fit k ∙ sym (first k))

    out
        : ((replay_of j (result_of (run j))).replies ≡ told (result_of (run j)).answers (log_of (run j)))
        × ((replay_of j (result_of (run j))).list ≡ fed.0)
    out = runs_replay (result_of (run j)).answers (answer_at_lem (run j)) fed.1

-- the plain list has no call twice
plain_twice
    : (kd : Kind) (op : Op) (o : Option Rec) (k : ℕ) (l : List Rec)
    → find_in l op.call ≡ o
    → NoneTwice l
    → NoneTwice (plain_step kd op o k l).list
unfolding plain_step without
plain_twice Search op None k l e h = h
plain_twice Search op (Some r) k l e h = h
plain_twice Insert op None k l e h = if_case (λ (p : Plain). NoneTwice p.list) (λ u. h) (λ u. added_twice l _ h e)
plain_twice Insert op (Some r) k l e h = h
plain_twice Delete op None k l e h = h
plain_twice Delete op (Some r) k l e h =
    if_case (λ (p : Plain). NoneTwice p.list) (λ u. filter_twice (is_not op.call) l h) (λ u. h)

pub replay_twice
    : (ops : List Op) (answers : List Told) (hs : List Line) (l : List Rec)
    → NoneTwice l
    → NoneTwice (replay ops answers hs l).list
unfolding replay ask_line
replay_twice ops answers [] l h = h
replay_twice ops answers (g ∷ hs) l h =
    replay_twice ops answers hs _ (plain_twice (get_or ops g.op no_op).kind (get_or ops g.op no_op) _ _ l refl h)

-- an answer "no depth" or "no page" of the plain list
abbrev TurnedDown : ℕ → Type 0
TurnedDown k = (k ≡ no_depth) ⊎ (k ≡ no_page)

plain-refused
    : (kd : Kind) (op : Op) (o : Option Rec) (k : ℕ) (l : List Rec)
    → TurnedDown (plain_step kd op o k l).code
    → (o ≡ None) × ((plain_step kd op o k l).list ≡ l)
unfolding plain_step
plain-refused Search op None k l h = (refl, refl)
plain-refused Search op (Some r) k l h = absurd (⊎_elim (λ e. omega arith) (λ e. omega arith) h)
plain-refused Insert op None k l h =
    if_case (λ (p : Plain). TurnedDown p.code → (◌≡◌ {A = Option Rec} None None) × (p.list ≡ l)) (λ u h. (refl, refl))
    (λ u h. absurd (⊎_elim (λ e. omega arith) (λ e. omega arith) h))
    h
plain-refused Insert op (Some r) k l h = absurd (⊎_elim (λ e. omega arith) (λ e. omega arith) h)
plain-refused Delete op None k l h = (refl, refl)
plain-refused Delete op (Some r) k l h =
    absurd
    (if_case (λ (p : Plain). TurnedDown p.code → ⊥) (λ u. ⊎_elim (λ e. omega arith) (λ e. omega arith))
    (λ u. ⊎_elim (λ e. omega arith) (λ e. omega arith))
    h)

pub refused_at
    : (ops : List Op) (answers : List Told) (hs : List Line) (l : List Rec) (p : ℕ)
    → (replay ops answers hs l).replies ≡ told answers hs
    → p < length hs
    → TurnedDown (get_or answers (get_or hs p no_line).op nothing_told).code
    → (find_in (replay ops answers (take p hs) l).list (get_or ops (get_or hs p no_line).op no_op).call ≡ None)
    × ((replay ops answers (take (suc p) hs) l).list ≡ (replay ops answers (take p hs) l).list)
unfolding replay reply_of ask_line
refused_at ops answers [] l p e lt c = absurd (omega arith)
refused_at ops answers (h ∷ hs) l zero e lt c =
    let op : Op = get_or ops h.op no_op in
    let k : ℕ = hint (get_or answers h.op nothing_told).code in
    let z : (plain_step op.kind op (find_in l op.call) k l).code ≡ (get_or answers h.op nothing_told).code
    = ap (λ rs. (get_or rs 0 (reply_of nothing_told)).code) e in
    plain-refused op.kind op (find_in l op.call) k l (⊎_elim (λ u. inl (z ∙ u)) (λ u. inr (z ∙ u)) c)
refused_at ops answers (h ∷ hs) l (suc p) e lt c = refused_at ops answers hs _ p (ap tail e) (omega arith) c
