-- No operation uses more turns than its kind can, under any list: what it has used is, after every turn, as its stage says.
use Rattle.std.specs.Prelude.{ℕ, zero, suc, ◌+◌, ◌*◌, ◌<◌, ◌≤◌, ◌≡◌, List, Bool, false, length, get_or, take, Option, None, Some}
use Rattle.std.proofs.Math.Path.{refl}
use Rattle.std.proofs.Math.Logic.{by_cases}
use Rattle.std.proofs.Common.{true≢false, le_refl, pow_pos, pow_mono}
use native.Mathlib.Omega.{arith}
use Rattle.std.proofs.Math.Decide.{dec_lt}
use Rattle.std.proofs.Math.ListN.{get_or-eq_default}
use Rattle.std.proofs.Math.Seq.{get_or-set_other}
use borrow.Author.Tests.{eqb-true, eqb-false}
use Rattle.spec.specs.declared.Rec.{Rec}
use Rattle.spec.specs.declared.Op.{Op}
use Rattle.spec.specs.declared.Kind.{Kind}
use Rattle.spec.specs.declared.Kind.TheVariants.{Search, Insert, Delete}
use Rattle.spec.specs.declared.Task.{Task}
use Rattle.spec.specs.declared.Task.TheVariants.{Verify, Release, Decide, WritePage, WriteOld, Unlock}
use Rattle.spec.specs.declared.Part.{Part}
use Rattle.spec.specs.declared.Part.TheVariants.{WriteNew, WriteEntry, UnlockNew}
use Rattle.spec.specs.declared.Stage.{Stage}
use Rattle.spec.specs.declared.Stage.TheVariants.{NotBegun, ReadPage, Reread, Lock, Held, Split, Done}
use Rattle.spec.specs.File.{Page, File, zero_page, page_at, entry_at, found_of}
use Rattle.spec.specs.Job.{Job, no_op, max_depth}
use Rattle.spec.specs.State.{State, Answer, same, Move, gone, go}
use Rattle.spec.specs.Turn.{home_of, entry_of, entries_from, begin, looked, looked_at, reread, decided, written, verified, old_written, held_turn, split_turn, turn}
use Rattle.spec.specs.Run.{table_after, directory_after, file_after, row_of, stage_of, idle, act, start, run}
use Rattle.spec.specs.Proper.{FileOk}
use Rattle.spec.specs.Claims.{state_at}
use Rattle.spec.specs.MostTurns.{longest, most_turns, sharp_turns, under, used_by, kind_at, most_used}
use Rattle.laws.specs.Tools.{if_case}
use Rattle.laws.specs.Turns.Rows.{still, row-after, step_case, first_row_lem}
use Rattle.laws.specs.Turns.Plans.{Next, entries_case}
use Rattle.laws.specs.Turns.Good.{Fine, Good, other_page}
use Rattle.laws.specs.Turns.Legal.{i_legal}
use Rattle.laws.specs.Turns.Work.{Work}
use Rattle.laws.specs.Turns.Decision.{decided_case}
use Rattle.laws.specs.Turns.Does.{Coherent, Does}
use Rattle.laws.specs.Turns.Coherent.{i_does}
use Rattle.laws.specs.Turns.Codes.{NoSearch, CodeAt}
use Rattle.laws.specs.Turns.States.{who, state_at-suc, state_at-zero, state_at_end}
use Rattle.laws.specs.Turns.Whole.{Whole, whole, end_whole}
use Rattle.laws.specs.Turns.Fields.{cut, cut_run}
use Rattle.laws.specs.Turns.Sizes.{run_shaped}
use Rattle.laws.specs.Turns.Writes.{Writes, i_writes}
use Rattle.laws.specs.Turns.Rising.{entry-deep, entry_deeper}
use Rattle.laws.specs.Turns.Interval.{start_stays, goes_in}
use Rattle.laws.specs.Turns.Spent.{depth_of, Read, top, SpentTask, SpentPart, Spent, search_within, spent_after, decide_top, new_top, entry_top, stage_top}

-- what an operation has used after its own turn
record After (f : File) (op : Op) (u : ℕ) (m : Move) : Type 0 where
  after : Spent (file_after m f) op (u + 1) m.stage

module _ (ops : List Op) (s : State) (op : Op) (good : Good ops s) (coherent : Coherent ops s) (u : ℕ) where
  abbrev f : File
  f = s.file

  abbrev M : Move → Type 0
  M m = After f op u m

  -- a turn that writes nothing
  calm : {to : Stage} {a : Answer} {x n t : ℕ} {v : Bool} → Spent f op (u + 1) to → M (still to a x n v t)
  unfolding depth_of entry_of home_of entry_at page_at directory_after table_after
  calm {to} {a} {x} {n} {t} {v} h =
      record {
        after = spent_after f (still to a x n v t) op (le_refl (depth_of f op)) (λ z. absurd (z refl)) (u + 1) to (λ p k. refl) h;
      }

  entry-g : depth_of f op ≤ f.g
  unfolding depth_of
  entry-g = (coherent.pages _).deep

  -- a turn that reads the entry
  reads : (c k : ℕ) → u + 1 ≤ c + k * depth_of f op → Read f op (entry_of f op) c k (u + 1)
  reads c k l = record { d = depth_of f op; used = l; deep = le_refl (depth_of f op); moved = λ z. absurd (z refl) }

  -- one more turn with the page that was read
  on : (x c k : ℕ) → Read f op x c k u → Read f op x (suc c) k (u + 1)
  on x c k h = record { d = h.d; used = omega (arith, h.used); deep = h.deep; moved = h.moved }

  begin_spent : (k : Kind) → u ≡ 0 → M (go (begin k (entry_of f op)) same)
  unfolding begin
  begin_spent Search e = calm (reads 1 2 (omega arith))
  begin_spent Insert e = calm (reads 1 3 (omega arith))
  begin_spent Delete e = calm (reads 1 3 (omega arith))

  looked_spent : (x : ℕ) (o : Option Rec) → op.kind ≡ Search → Read f op x 1 2 u → M (looked s op (found_of x o))
  unfolding looked_at
  looked_spent x None e h = calm (on x 1 2 h)
  looked_spent x (Some r) e h = calm (omega (arith, h.used, h.deep, entry-g, search_within f.g op.kind e))

  reread_spent : (x t : ℕ) → op.kind ≡ Search → Read f op x 2 2 u → M (reread s op x t)
  unfolding reread
  reread_spent x t e h =
      if_case M (λ z. calm (omega (arith, h.used, h.deep, entry-g, search_within f.g op.kind e)))
      (λ z. let l = h.moved (eqb-false _ _ z) in calm (reads 1 2 (omega (arith, h.used))))

  verified_spent : (x : ℕ) → Read f op x 2 3 u → M (verified s op x)
  unfolding verified depth_of
  verified_spent x h =
      if_case M (λ z. let e : entry_of f op ≡ x = eqb-true _ _ z in calm (rw (← e) (omega (arith, h.used, h.deep))))
      (λ z. let l = h.moved (eqb-false _ _ z) in calm (reads 0 3 (omega (arith, h.used))))

  decided_spent : (x : ℕ) (o : Option Rec) → u + 3 ≤ top f op → SpentTask f op u x Decide → M (decided s op op.kind (found_of x o))
  decided_spent x o h k = decided_case s op x M (λ a. calm (omega arith)) (calm (omega arith)) (λ l n. calm (omega arith)) o

  written_spent : (x : ℕ) (k : Kind) (p : Page) → u + 2 ≤ top f op → M (written s op x k p)
  unfolding written
  written_spent x Search p h = calm (omega arith)
  written_spent x Insert p h = record { after = omega arith }
  written_spent x Delete p h = record { after = omega arith }

  held_spent : (x : ℕ) (t : Task) → NoSearch op → SpentTask f op u x t → M (held_turn s op x t)
  unfolding held_turn old_written
  held_spent x Verify n h = verified_spent x h
  held_spent x (Release y) n h = calm (on y 0 3 h)
  held_spent x Decide n h = decided_spent x _ (decide_top f op good.fit coherent.pages u x n h) h
  held_spent x WritePage n h = written_spent x _ _ h
  held_spent x WriteOld n h = record { after = omega arith }
  held_spent x Unlock n h = calm (omega arith)

  -- the entries of a split, from entry j on
  entries_spent
      : (m : Move) (x b n j : ℕ)
      → page_at (file_after m f) x ≡ page_at f x
      → u + 4 ≤ top f op
      → ((k : ℕ) → Next f op x b j k → SpentPart f op (u + 1) x n (WriteEntry k))
      → SpentPart (file_after m f) op (u + 1) x n (entries_from f op x b j)
  entries_spent m x b n j e l h = entries_case (SpentPart (file_after m f) op (u + 1) x n) f op x b j (λ k c. rw e (h k c)) (λ c. omega arith)

  split_spent
      : (x b n : ℕ) (q : Part)
      → Fine f op (Split x b n q)
      → Work f op (Split x b n q)
      → SpentPart f op u x n q
      → M (split_turn s op x b n q)
  unfolding split_turn page_at table_after
  split_spent x b n (WriteNew i) k w h =
      let m = split_turn s op x b n (WriteNew i) in
      let kept = get_or-set_other f.table (b + i) x _ zero_page (λ e. omega (arith, k.0.below)) in
      record {
        after =
            if_case (SpentPart (file_after m f) op (u + 1) x n) (λ e. rw kept (omega arith))
            (λ e.
            entries_spent m x b n 0 kept (new_top f op good.fit coherent.pages u x b n i k w h)
            (λ c z.
            let l = goes_in f op x good.fit (coherent.pages x) w.0 b c z.within z.goes in
            omega (arith, l.0, start_stays f op x good.fit (coherent.pages x) w.0)));
      }
  split_spent x b n (WriteEntry j) k w h =
      record {
        after =
            entries_spent (split_turn s op x b n (WriteEntry j)) x b n (suc j) refl (entry_top f op good.fit coherent.pages u x b n j k w h)
            (λ c z. omega (arith, z.from));
      }
  split_spent x b n UnlockNew k w h = calm (omega arith)

  turn_spent
      : (st : Stage) (c : ℕ)
      → idle s.locks st ≡ false
      → Fine f op st
      → Work f op st
      → CodeAt f op c st
      → Spent f op u st
      → M (turn s op st)
  unfolding turn idle
  turn_spent NotBegun c i k w n h = begin_spent _ h
  turn_spent (ReadPage x) c i k w n h = looked_spent x _ w h
  turn_spent (Reread x t) c i k w n h = reread_spent x t w h
  turn_spent (Lock x) c i k w n h = calm (on x 1 3 h)
  turn_spent (Held x t) c i k w n h = held_spent x t n.0 h
  turn_spent (Split x b m q) c i k w n h = split_spent x b m q k w h
  turn_spent Done c i k w n h = absurd (true≢false i)

-- at every state of a run: what each operation has used is as its stage says
abbrev AllSpent : List Op → State → Type 0
AllSpent ops s = (i : ℕ) → Spent s.file (get_or ops i no_op) (row_of s i).used (row_of s i).stage

act_spent
    : (j : Job) (s : State) (i : ℕ)
    → Whole j s
    → i < length s.rows
    → idle s.locks (stage_of s i) ≡ false
    → AllSpent j.ops s
    → AllSpent j.ops (act s i (turn s (get_or j.ops i no_op) (stage_of s i)))
unfolding stage_of depth_of entry_of home_of
act_spent j s i w lt e h =
    row-after s i m lt (λ k row. Spent (file_after m s.file) (get_or j.ops k no_op) row.used row.stage)
    (turn_spent j.ops s _ w.good w.coherent _ (stage_of s i) _ e (w.good.fine i) (w.coherent.work i) (w.codes.code i lt) (h i)).after
    (λ k n.
    spent_after s.file m (get_or j.ops k no_op)
    (entry-deep j.ops s i m w.good w.coherent does writes _)
    (entry_deeper j.ops s i m w.good w.coherent does writes _)
    _
    (stage_of s k)
    (other_page j.ops s i k m w.good (i_legal j.ops s i w.good e).page n)
    (h k))
  where
    m : Move
    m = turn s (get_or j.ops i no_op) (stage_of s i)

    does : Does s (get_or j.ops i no_op) (stage_of s i) m
    does = i_does j.ops s i w.good w.coherent

    writes : Writes s.file (stage_of s i) m
    writes = i_writes j.ops s i w.good w.coherent w.settled

start_spent : (ops : List Op) (f : File) (m : ℕ) → AllSpent ops (start f m)
unfolding start row_of
start_spent ops f m i = first_row_lem (λ r. Spent f (get_or ops i no_op) r.used r.stage) refl (omega arith) m i

all_spent : (j : Job) → FileOk j.file → (t : ℕ) → t ≤ length j.turns → AllSpent j.ops (state_at j t)
unfolding row_of
all_spent j ok zero l = rw (state_at-zero j) (start_spent j.ops _ _)
all_spent j ok (suc t) l =
    let w = whole j ok t (omega arith) in
    let h = all_spent j ok t (omega arith) in
    rw (state_at-suc j t l)
    (step_case (AllSpent j.ops) j.ops (state_at j t) (who j t) h
    (λ lt e. act_spent j (state_at j t) (who j t) w lt e h))

module _ (j : Job) (ok : FileOk j.file) (i : ℕ) where
  w : Whole j (run j)
  w = end_whole j ok

  spent : Spent (run j).file (get_or j.ops i no_op) (row_of (run j) i).used (row_of (run j) i).stage
  spent = rw (← state_at_end j) (all_spent j ok (length j.turns) (omega arith) i)

  run-most : (row_of (run j) i).used ≤ sharp_turns j.file.g (get_or j.ops i no_op).kind
  unfolding row_of stage_of
  run-most =
      by_cases (dec_lt i (length (run j).rows))
      (λ l.
      rw (run_shaped j).depth at
      (stage_top (run j).file (get_or j.ops i no_op) w.good.fit w.coherent.pages _ (row_of (run j) i).stage _ (w.good.fine i)
      (w.coherent.work i)
      (w.codes.code i l)
      spent))
      (λ l. rw (get_or-eq_default (run j).rows gone {n = i} (omega arith)) (omega arith))

-- NO SEARCH USES MORE THAN 2g + 3 TURNS, NO DELETE MORE THAN 3g + 6, AND NO INSERT MORE THAN 2^g + g + 6, under any list of turns
pub sharp-turns : (j : Job) → FileOk j.file → (ts : List ℕ) (i : ℕ) → used_by j ts i ≤ sharp_turns j.file.g (kind_at j i)
unfolding under
sharp-turns j ok ts i = run-most _ ok i

-- which is within what is asked
sharp-most : (g : ℕ) (k : Kind) → sharp_turns g k ≤ most_turns g k
unfolding sharp_turns longest most_turns
sharp-most g Search = omega arith
sharp-most zero Insert = omega arith
sharp-most (suc g) Insert = omega arith
sharp-most g Delete = omega (arith, pow_pos g)

pub most-turns : (j : Job) → FileOk j.file → (ts : List ℕ) (i : ℕ) → used_by j ts i ≤ most_turns j.file.g (kind_at j i)
most-turns j ok ts i = omega (arith, sharp-turns j ok ts i, sharp-most j.file.g (kind_at j i))

-- no kind has more than the longest, which is 294 at the largest depth
most-longest : (g : ℕ) (k : Kind) → most_turns g k ≤ longest g
unfolding longest most_turns
most-longest g Search = omega arith
most-longest g Insert = le_refl (longest g)
most-longest g Delete = le_refl (longest g)

pub sharp-longest : (g : ℕ) (k : Kind) → sharp_turns g k ≤ longest g
sharp-longest g k = omega (arith, sharp-most g k, most-longest g k)

longest-used : (g : ℕ) → g ≤ max_depth → longest g ≤ most_used
unfolding longest
longest-used g l = let p = pow_mono {i = g} {j = max_depth} l in omega arith

pub narrow-turns : (j : Job) → FileOk j.file → (ts : List ℕ) (i : ℕ) → used_by j ts i ≤ most_used
narrow-turns j ok ts i =
    omega (arith, most-turns j ok ts i, most-longest j.file.g (kind_at j i), longest-used j.file.g ok.fit.depth)

-- so it is before turn t of a job's own list, and at its end
pub used_at_lem : (j : Job) → FileOk j.file → (i t : ℕ) → (row_of (state_at j t) i).used ≤ most_used
unfolding under cut
used_at_lem j ok i t = rw (← cut_run j t) (narrow-turns j ok (take t j.turns) i)

pub used_end : (j : Job) → FileOk j.file → (i : ℕ) → (row_of (run j) i).used ≤ most_used
unfolding under
used_end j ok i = narrow-turns j ok j.turns i
