-- MONTHS ONE AFTER ANOTHER, tidied between or not, are explained by their logs on one plain list. What the plain list answers hangs only on
-- which calls it has, and with which charges.
use Rattle.std.specs.Prelude.{ℕ, ◌≡◌, refl, List, [], ◌∷◌, ◌++◌, map, get_or, Option, None, Some}
use Rattle.std.proofs.Common.{sym, ap, ◌∙◌}
use Rattle.std.proofs.Math.Logic.{by_cases}
use Rattle.std.proofs.Math.Decide.{ℕ_discrete}
use Rattle.spec.specs.declared.Rec.{Rec}
use Rattle.spec.specs.declared.Op.{Op}
use Rattle.spec.specs.declared.Kind.{Kind}
use Rattle.spec.specs.declared.Kind.TheVariants.{Search, Insert, Delete}
use Rattle.spec.specs.File.{File, find_in, without, contents}
use Rattle.spec.specs.Job.{Job, no_op}
use Rattle.spec.specs.Decode.{file_of, job_of}
use Rattle.spec.specs.Run.{run}
use Rattle.spec.specs.Result.{Told, Line, result}
use Rattle.spec.specs.PlainList.{NoneTwice, Plain, plain_step, ask_line, replay}
use Rattle.spec.specs.Bytes.{AreBytes}
use Rattle.spec.specs.Proper.{FileOk}
use Rattle.spec.specs.Claims.{Accepted, answer_at}
use Rattle.spec.specs.Months.{Taken, as_it_is, tidied, Follows, Months, last, month, last_of, replies_told, fed_log, feed, MonthsTogether}
use Rattle.laws.specs.Tools.{if_both}
use Rattle.laws.specs.Codec.Accepted.{accepted-file, file_ok}
use Rattle.laws.specs.Turns.Records.{added_own, added_other, without_own, without_other, same_has}
use Rattle.laws.specs.Turns.Contents.{contents_lookup, contents_twice}
use Rattle.laws.specs.Turns.Whole.{end_whole}
use Rattle.laws.specs.Turns.Answers.{replayed, replay_twice}
use Rattle.laws.specs.ReadBack.{file-bytes, read_back}
use Rattle.laws.specs.Tidy.File.{holds-once, same_find}
use Rattle.laws.specs.Tidy.Bytes.{done_said, file-says}

-- two lists in which the same is found
abbrev pub Finds : List Rec → List Rec → Type 0
Finds l m = (k : ℕ) → find_in l k ≡ find_in m k

-- answer the same, and so do the lists after it
abbrev Agree : Plain → Plain → Type 0
Agree p q = (p.code ≡ q.code) × (p.charge ≡ q.charge) × Finds p.list q.list

added-finds : (l m : List Rec) (r : Rec) → find_in l r.call ≡ None → Finds l m → Finds (l ++ (r ∷ [])) (m ++ (r ∷ []))
added-finds l m r e h k =
    by_cases (ℕ_discrete k r.call) (λ (z : k ≡ r.call). rw z (added_own l r e ∙ sym (added_own m r (sym (h r.call) ∙ e))))
    (λ z. added_other l r k z ∙ h k ∙ sym (added_other m r k z))

without-finds : (l m : List Rec) (c : ℕ) → Finds l m → Finds (without l c) (without m c)
without-finds l m c h k =
    by_cases (ℕ_discrete k c) (λ (z : k ≡ c). rw z (without_own l c ∙ sym (without_own m c)))
    (λ z. without_other l c k z ∙ h k ∙ sym (without_other m c k z))

plain_agree
    : (kd : Kind) (op : Op) (o : Option Rec) (told : ℕ) (l m : List Rec)
    → find_in l op.call ≡ o
    → Finds l m
    → Agree (plain_step kd op o told l) (plain_step kd op o told m)
unfolding plain_step
plain_agree Search op None told l m e h = (refl, refl, h)
plain_agree Search op (Some r) told l m e h = (refl, refl, h)
plain_agree Insert op None told l m e h = if_both Agree (λ u. (refl, refl, h)) (λ u. (refl, refl, added-finds l m _ e h))
plain_agree Insert op (Some r) told l m e h = (refl, refl, h)
plain_agree Delete op None told l m e h = (refl, refl, h)
plain_agree Delete op (Some r) told l m e h = if_both Agree (λ u. (refl, refl, without-finds l m op.call h)) (λ u. (refl, refl, h))

ask_agree : (ops : List Op) (answers : List Told) (g : Line) (l m : List Rec) → Finds l m → Agree (ask_line ops answers g l) (ask_line ops answers g m)
unfolding ask_line
ask_agree ops answers g l m h =
    rw (← h (get_or ops g.op no_op).call) (plain_agree (get_or ops g.op no_op).kind (get_or ops g.op no_op) _ _ l m refl h)

pub replay-finds
    : (ops : List Op) (answers : List Told) (hs : List Line) (l m : List Rec)
    → Finds l m
    → ((replay ops answers hs l).replies ≡ (replay ops answers hs m).replies) × Finds (replay ops answers hs l).list (replay ops answers hs m).list
unfolding replay
replay-finds ops answers [] l m h = (refl, h)
replay-finds ops answers (g ∷ hs) l m h =
    let a = ask_agree ops answers g l m h in
    let t = replay-finds ops answers hs _ _ a.2 in
    (rw (a.0, a.1, t.0), t.1)

-- one month, on any list that has what its file holds
module _ (a : List ℕ) (accepted : Accepted a) (l : List Rec) (h : Finds l (contents (file_of a))) where
  abbrev j : Job
  j = job_of a

  ok : FileOk j.file
  ok = accepted-file a accepted

  same : ((fed_log a l).replies ≡ (replay j.ops (result j).answers (result j).log (contents j.file)).replies)
      × Finds (fed_log a l).list (replay j.ops (result j).answers (result j).log (contents j.file)).list
  unfolding fed_log job_of
  same = replay-finds j.ops (result j).answers (result j).log l (contents j.file) h

  month-answers : (fed_log a l).replies ≡ replies_told a
  unfolding replies_told answer_at
  month-answers = same.0 ∙ (replayed j ok).0

  month-finds : Finds (fed_log a l).list (contents (run j).file)
  month-finds k = same.1 k ∙ (replayed j ok).1 k ∙ sym (contents_lookup (run j).file (end_whole j ok).good.fit k)

-- the next month's file holds the same
taken-finds : (b : List ℕ) (f : File) → AreBytes b → Taken b f → Finds (contents (file_of b)) (contents f)
taken-finds b f bytes (as_it_is e) = rw e (λ k. refl)
taken-finds b f bytes (tidied room d n e) =
    let t = (done_said room d b).0 n in
    rw (e, file-says d b bytes t.accepted t.no_ops t.wanted) (λ k. sym (same_find (file_of b) (file_ok b t.accepted) d t.wanted k))

next-finds : (a b : List ℕ) → AreBytes a → Accepted a → Follows a b → Finds (contents (run (job_of a)).file) (contents (file_of b))
unfolding job_of
next-finds a b bytes accepted w =
    let that = ap (λ (k : Job). k.file) (read_back a bytes accepted w.charges w.left).1 in
    rw (← that) (taken-finds w.charges (file_of b) (file-bytes a bytes accepted w.charges w.left) w.taken)

-- all months
record All (a : List ℕ) (bs : List (List ℕ)) (l : List Rec) : Type 0 where
  answers : (feed (a ∷ bs) l).replies ≡ map replies_told (a ∷ bs)
  finds : Finds (feed (a ∷ bs) l).list (contents (run (job_of (last_of a bs))).file)
  ok : FileOk (job_of (last_of a bs)).file

all_months
    : (a : List ℕ) (bs : List (List ℕ)) (l : List Rec)
    → AreBytes a
    → Accepted a
    → Finds l (contents (file_of a))
    → Months a bs
    → All a bs l
unfolding feed last_of
all_months a [] l bytes ok h last =
    record { answers = ap (λ r. r ∷ []) (month-answers a ok l h); finds = month-finds a ok l h; ok = accepted-file a ok }
all_months a (b ∷ bs) l bytes ok h (month w ms) =
    let n = next-finds a b bytes ok w in
    let t = all_months b bs (fed_log a l).list w.bytes w.accepted (λ i. month-finds a ok l h i ∙ n i) ms in
    record { answers = rw (month-answers a ok l h, ← t.answers); finds = t.finds; ok = t.ok }

feed-once : (bs : List (List ℕ)) (l : List Rec) → NoneTwice l → NoneTwice (feed bs l).list
unfolding feed fed_log
feed-once [] l h = h
feed-once (a ∷ more) l h = feed-once more _ (replay_twice (job_of a).ops (result (job_of a)).answers (result (job_of a)).log l h)

-- MONTHS ONE AFTER ANOTHER ARE EXPLAINED TOGETHER
pub months : MonthsTogether
months a bytes accepted bs ms =
    let t = all_months a bs (contents (file_of a)) bytes accepted (λ k. refl) ms in
    let once = feed-once (a ∷ bs) (contents (file_of a)) (holds-once (file_of a) (file_ok a accepted)) in
    let end_once = contents_twice (run (job_of (last_of a bs))).file (end_whole (job_of (last_of a bs)) t.ok).coherent.pages in
    record {
      answers = t.answers;
      held = λ r. (same_has _ _ once t.finds r, same_has _ _ end_once (λ k. sym (t.finds k)) r);
      once = once;
    }
