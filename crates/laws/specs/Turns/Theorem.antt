-- DEMAND 3: every turn list of a job whose file is proper is explained by the log of its result, on the plain list. (That its charge file is that
-- file is a matter of bytes: ReadBack.)
use Prim.Native.Nat.{ℕ, suc, ◌<◌, ◌≤◌}
use Rattle.std.specs.Prelude.{◌≡◌, ◌⊎◌, List, map, Bool, true, false, length, get_or, None, Some}
use Rattle.std.proofs.Math.Path.{refl, ap}
use Rattle.std.proofs.Common.{sym, ◌∙◌, subst, ⊎_elim, true≢false, arith}
use Rattle.std.proofs.Math.Logic.{by_cases}
use Rattle.std.proofs.lemmas.Bool.{false≢true}
use Rattle.std.proofs.Math.Decide.{ℕ_discrete, dec_lt}
use Rattle.std.proofs.Math.ListN.{length-map}
use Rattle.std.proofs.Math.Seq.{take-length}
use Rattle.spec.specs.declared.Op.{Op}
use Rattle.spec.specs.declared.Kind.TheVariants.{Search}
use Rattle.spec.specs.declared.Stage.{Stage}
use Rattle.spec.specs.declared.Stage.TheVariants.{NotBegun, ReadPage, Reread, Lock, Held, Split, Done}
use Rattle.spec.specs.File.{File, find_in, contents}
use Rattle.spec.specs.Job.{Job, no_op}
use Rattle.spec.specs.Code.{not_yet, no_depth, no_page}
use Rattle.spec.specs.State.{State}
use Rattle.spec.specs.Run.{row_of, stage_of, idle, run}
use Rattle.spec.specs.Result.{Told, told_of, log_of, result_of, result}
use Rattle.spec.specs.PlainList.{NoneTwice, reply_of, Replay, replay}
use Rattle.spec.specs.Proper.{FileOk}
use Rattle.spec.specs.Claims.{state_at, FirstTurn, Ended, Waits, times, line_at, answer_at, op_at, fed, IsFile, Explained}
use Rattle.laws.specs.Turns.Records.{same_has}
use Rattle.laws.specs.Turns.Rows.{stage-row, moves_row, code_row}
use Rattle.laws.specs.Turns.Progress.{progress}
use Rattle.laws.specs.Turns.Codes.{CodeAt}
use Rattle.laws.specs.Turns.States.{first_turn, first_ge, state_at_now}
use Rattle.laws.specs.Turns.Whole.{Whole, pages_of, whole, end_whole, kept_end}
use Rattle.laws.specs.Turns.Contents.{contents_lookup, contents_twice}
use Rattle.laws.specs.Turns.Log.{Marked, log-once, log_other, log-sorted, log-says}
use Rattle.laws.specs.Turns.Answers.{answer_at_lem, replayed, replay_twice, refused_at}

-- a search that is unfinished is not idle
pub search_moves
    : (l : List Bool) (f : File) (op : Op) (c : ℕ) (st : Stage)
    → CodeAt f op c st
    → op.kind ≡ Search
    → (st ≡ Done → ⊥)
    → idle l st ≡ true
    → ⊥
unfolding idle
search_moves l f op c NotBegun h k n e = false≢true e
search_moves l f op c (ReadPage x) h k n e = false≢true e
search_moves l f op c (Reread x t) h k n e = false≢true e
search_moves l f op c (Lock x) h k n e = h.0 k
search_moves l f op c (Held x t) h k n e = false≢true e
search_moves l f op c (Split x b m q) h k n e = false≢true e
search_moves l f op c Done h k n e = n refl

-- an operation that is not idle is unfinished
pub moves_unfinished : (l : List Bool) (st : Stage) → idle l st ≡ false → st ≡ Done → ⊥
unfolding idle
moves_unfinished l st i e = true≢false (sym (ap (idle l) e) ∙ i)

-- a finished operation has a code
done-code : {j : Job} {s : State} → Whole j s → (i : ℕ) → i < length s.rows → stage_of s i ≡ Done → (row_of s i).code ≡ not_yet → ⊥
done-code {j} {s} w i l e = subst (CodeAt s.file (get_or j.ops i no_op) (row_of s i).code) e (w.codes.code i l)

module _ (j : Job) (ok : FileOk j.file) where
  w : Whole j (run j)
  w = end_whole j ok

  code_at : (i : ℕ) → (answer_at (result j) i).code ≡ (row_of (run j) i).code
  unfolding answer_at result told_of
  code_at i = ap (λ (t : Told). t.code) (answer_at_lem (run j) i)

  pub answer-count : length (result j).answers ≡ length j.ops
  unfolding result result_of
  answer-count = length-map (run j).rows told_of ∙ w.rows

  log_at : (result j).log ≡ log_of (run j)
  unfolding result result_of
  log_at = refl

  fed_all : fed j (result j) (length (result j).log) ≡ replay j.ops (result j).answers (result j).log (contents j.file)
  unfolding fed
  fed_all = ap (λ hs. replay j.ops (result j).answers hs (contents j.file)) (take-length (result j).log)

  all_answers : (fed j (result j) (length (result j).log)).replies ≡ map (λ h. reply_of (answer_at (result j) h.op)) (result j).log
  unfolding answer_at
  all_answers = ap (λ (r : Replay). r.replies) fed_all ∙ (replayed j ok).0

  list-once : (n : ℕ) → NoneTwice (fed j (result j) n).list
  unfolding fed
  list-once n = replay_twice j.ops _ _ _ (contents_twice j.file (pages_of j.file ok))

  same_find : (k : ℕ) → find_in (fed j (result j) (length (result j).log)).list k ≡ find_in (contents (run j).file) k
  same_find k =
      ap (λ (r : Replay). find_in r.list k) fed_all ∙ (replayed j ok).1 k ∙ sym (contents_lookup (run j).file w.good.fit k)

  end_once : NoneTwice (contents (run j).file)
  end_once = contents_twice (run j).file w.coherent.pages

  row-moment
      : (i : ℕ)
      → ((row_of (run j) i).code ≡ not_yet → ⊥)
      → (first_turn j.turns i ≤ (row_of (run j) i).moment) × ((row_of (run j) i).moment < (run j).now)
  row-moment i n = let c = w.past.right i n in (c.3, c.1)

  in_order
      : (p q t u : ℕ)
      → p < length (result j).log
      → q < length (result j).log
      → Ended j (line_at (result j) p).op t
      → FirstTurn j (line_at (result j) q).op u
      → t < u
      → p < q
  unfolding result result_of
  in_order p q t u lp lq e f l =
      by_cases (dec_lt p q) (λ h. h)
      (λ h.
      by_cases (ℕ_discrete q p) (λ (z : q ≡ p). absurd (let y : (line_at (result j) q).moment ≡ (line_at (result j) p).moment = rw z in omega (arith, both)))
      (λ z. absurd (⊎_elim (λ b. omega (arith, both)) (λ b. omega (arith, both)) (log-sorted (run j) q p (omega arith) lp))))
    where
      a : ℕ
      a = (line_at (result j) p).op

      b : ℕ
      b = (line_at (result j) q).op

      sp : Marked (line_at (result j) p).moment (row_of (run j) a)
      sp = log-says (run j) p lp

      sq : Marked (line_at (result j) q).moment (row_of (run j) b)
      sq = log-says (run j) q lq

      then : Whole j (state_at j (suc t))
      then = whole j ok (suc t) e.within

      said : (row_of (state_at j (suc t)) a).code ≡ not_yet → ⊥
      said = done-code then a (omega (arith, code_row (run j) a sp.code, w.rows, then.rows)) e.after

      early : (line_at (result j) p).moment < suc t
      early =
          omega (arith, sp.moment, (kept_end j ok a (suc t) e.within said).1, (then.past.right a said).1, state_at_now j (suc t) e.within)

      late : u ≤ (line_at (result j) q).moment
      late = omega (arith, sq.moment, (row-moment b sq.code).0, first_ge j.turns b u (omega (arith, f.within)) f.not_before)

      both : (line_at (result j) p).moment < (line_at (result j) q).moment
      both = omega (arith, early, late)

  can_move
      : (t i : ℕ)
      → t ≤ length j.turns
      → i < length j.ops
      → (stage_of (state_at j t) i ≡ Done → ⊥)
      → (k : ℕ) × (k < length j.ops) × (stage_of (state_at j t) k ≡ Done → ⊥) × (Waits (state_at j t) k → ⊥)
  can_move t i h l n =
      let then = whole j ok t h in
      let p = progress (state_at j t) then.good.locks i n in (
        p.0,
        omega (arith, moves_row (state_at j t) p.0 p.1, then.rows),
        moves_unfinished (state_at j t).locks _ p.1,
        λ w. true≢false (sym w.idles ∙ p.1),
      )

  all_refused
      : (p : ℕ)
      → p < length (result j).log
      → ((answer_at (result j) (line_at (result j) p).op).code ≡ no_depth) ⊎ ((answer_at (result j) (line_at (result j) p).op).code ≡ no_page)
      → (find_in (fed j (result j) p).list (op_at j (result j) p).call ≡ None) × ((fed j (result j) (suc p)).list ≡ (fed j (result j) p).list)
  unfolding fed answer_at
  all_refused p l c = refused_at j.ops (result j).answers (result j).log (contents j.file) p (replayed j ok).0 l c

  -- a finished operation is answered
  pub finished-answered : (i : ℕ) → i < length j.ops → stage_of (run j) i ≡ Done → (answer_at (result j) i).code ≡ not_yet → ⊥
  finished-answered i l d z = done-code w i (omega (arith, w.rows)) d (sym (code_at i) ∙ z)

  pub explained : ((b : List ℕ) → (result j).file ≡ Some b → IsFile b (run j).file) → Explained j (result j)
  explained charged =
      record {
        count = answer-count;
        answers = all_answers;
        refused = all_refused;
        once = λ i n.
            let m : (row_of (run j) i).code ≡ not_yet → ⊥ = λ z. n (code_at i ∙ z) in
            ap (times i) log_at ∙ log-once (run j) i m (row-moment i m).1;
        no_other = λ i z. ap (times i) log_at ∙ log_other (run j) i (sym (code_at i) ∙ z);
        sorted = rw log_at (log-sorted (run j));
        held = λ r. (
          same_has _ _ (list-once _) same_find r,
          same_has _ _ end_once (λ k. sym (same_find k)) r,
        );
        charged = charged;
        list_once = list-once;
        file_once = λ t l. contents_twice _ (whole j ok t l).coherent.pages;
        order = in_order;
        searches = λ t i l k v.
            search_moves _ _ _ _ _ ((whole j ok t l).codes.code i (stage-row (state_at j t) i v.unfinished)) k v.unfinished v.idles;
        progress = can_move;
        finished = finished-answered;
      }
