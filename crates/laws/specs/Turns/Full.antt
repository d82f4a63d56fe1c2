-- The page of a split is full on each of its turns, from turn (d) until the old page is written. So the number of its new pages is settled by
-- the leading bits that the call shares with the page's records.
use Rattle.std.specs.Prelude.{ℕ, zero, suc, ◌≤◌, ◌≡◌, refl, List, length, get_or, Option, None, Some}
use Rattle.std.proofs.Common.{sym, ◌∙◌, inl, arith}
use Rattle.std.proofs.lemmas.Bool.{lt-leb}
use Rattle.spec.specs.declared.Rec.{Rec}
use Rattle.spec.specs.declared.Op.{Op}
use Rattle.spec.specs.declared.Kind.{Kind}
use Rattle.spec.specs.declared.Kind.TheVariants.{Search, Insert, Delete}
use Rattle.spec.specs.declared.Task.{Task}
use Rattle.spec.specs.declared.Task.TheVariants.{Verify, Release, Decide, WritePage, WriteOld, Unlock}
use Rattle.spec.specs.declared.Part.{Part}
use Rattle.spec.specs.declared.Part.TheVariants.{WriteNew, WriteEntry, UnlockNew}
use Rattle.spec.specs.declared.Stage.{Stage}
use Rattle.spec.specs.declared.Stage.TheVariants.{NotBegun, ReadPage, Reread, Lock, Held, Split, Done}
use Rattle.spec.specs.File.{File, page_at, found_of}
use Rattle.spec.specs.Job.{Job, no_op}
use Rattle.spec.specs.Split.{split_count}
use Rattle.spec.specs.State.{State, same, Move, go}
use Rattle.spec.specs.Turn.{new_count, begin, looked, looked_at, reread, written, verified, old_written, held_turn, split_turn, turn}
use Rattle.spec.specs.Run.{table_after, file_after, row_of, stage_of, step, start}
use Rattle.spec.specs.Proper.{PageOk, Fit, FileOk}
use Rattle.spec.specs.Claims.{state_at}
use Rattle.laws.specs.Tools.{if_case}
use Rattle.laws.specs.Turns.Prefix.{fit_32}
use Rattle.laws.specs.Turns.Shared.{all_share-least}
use Rattle.laws.specs.Turns.Count.{new_count_lem}
use Rattle.laws.specs.Turns.Rows.{stage-after, step_case, first_row_lem}
use Rattle.laws.specs.Turns.Locks.{Holds}
use Rattle.laws.specs.Turns.Good.{Fine, Good}
use Rattle.laws.specs.Turns.Legal.{i_legal}
use Rattle.laws.specs.Turns.Work.{Plan}
use Rattle.laws.specs.Turns.States.{who, state_at-suc, state_at-zero}
use Rattle.laws.specs.Turns.Whole.{whole}
use Rattle.laws.specs.Turns.Frozen.{split_page, held-page}
use Rattle.laws.specs.Turns.Decision.{decided_case}

abbrev pub FullPage : File → ℕ → Type 0
FullPage f x = f.c ≤ length (page_at f x).records

abbrev pub FullTask : File → ℕ → Task → Type 0
FullTask f x Verify = Unit {0}
FullTask f x (Release y) = Unit {0}
FullTask f x Decide = Unit {0}
FullTask f x WritePage = Unit {0}
FullTask f x WriteOld = FullPage f x
FullTask f x Unlock = Unit {0}

-- the page that an operation at this stage splits is full
abbrev pub Full : File → Stage → Type 0
Full f NotBegun = Unit {0}
Full f (ReadPage x) = Unit {0}
Full f (Reread x t) = Unit {0}
Full f (Lock x) = Unit {0}
Full f (Held x t) = FullTask f x t
Full f (Split x b n q) = FullPage f x
Full f Done = Unit {0}

-- a move that leaves the pages that the operation holds
task_after : (f : File) (m : Move) (x : ℕ) (t : Task) → page_at (file_after m f) x ≡ page_at f x → FullTask f x t → FullTask (file_after m f) x t
task_after f m x Verify e h = tt
task_after f m x (Release y) e h = tt
task_after f m x Decide e h = tt
task_after f m x WritePage e h = tt
task_after f m x WriteOld e h = rw e h
task_after f m x Unlock e h = tt

full-after
    : (f : File) (m : Move) (st : Stage)
    → ((x : ℕ) → Holds st x → page_at (file_after m f) x ≡ page_at f x)
    → Full f st
    → Full (file_after m f) st
full-after f m NotBegun a h = tt
full-after f m (ReadPage x) a h = tt
full-after f m (Reread x t) a h = tt
full-after f m (Lock x) a h = tt
full-after f m (Held x t) a h = task_after f m x t (a x refl) h
full-after f m (Split x b n q) a h = rw (a x (inl refl)) h
full-after f m Done a h = tt

-- the operation's own turn
module _ (s : State) (op : Op) where
  abbrev After : Move → Type 0
  After m = Full (file_after m s.file) m.stage

  begin-full : (k : Kind) (x : ℕ) → After (go (begin k x) same)
  unfolding begin
  begin-full Search x = tt
  begin-full Insert x = tt
  begin-full Delete x = tt

  looked-full : (x : ℕ) (o : Option Rec) → After (looked s op (found_of x o))
  unfolding looked_at
  looked-full x None = tt
  looked-full x (Some r) = tt

  written-full : (x : ℕ) (k : Kind) → After (written s op x k (page_at s.file x))
  unfolding written
  written-full x Search = tt
  written-full x Insert = tt
  written-full x Delete = tt

  held-full : (x : ℕ) (t : Task) → After (held_turn s op x t)
  unfolding held_turn verified old_written page_at table_after
  held-full x Verify = if_case After (λ e. tt) (λ e. tt)
  held-full x (Release y) = tt
  held-full x Decide = decided_case s op x After (λ a. tt) tt (λ l u. l) _
  held-full x WritePage = written-full x _
  held-full x WriteOld = tt
  held-full x Unlock = tt

  split-full : (x b n : ℕ) (q : Part) → Fine s.file op (Split x b n q) → FullPage s.file x → After (split_turn s op x b n q)
  unfolding split_turn
  split-full x b n q fi h = two q (rw (split_page s op x b n q fi) h)
    where
      two : (q : Part) → FullPage (file_after (split_turn s op x b n q) s.file) x → After (split_turn s op x b n q)
      two (WriteNew i) k = k
      two (WriteEntry j) k = k
      two UnlockNew k = k

  turn-full : (st : Stage) → Fine s.file op st → Full s.file st → After (turn s op st)
  unfolding turn reread
  turn-full NotBegun fi h = begin-full _ _
  turn-full (ReadPage x) fi h = looked-full x _
  turn-full (Reread x t) fi h = if_case After (λ e. tt) (λ e. tt)
  turn-full (Lock x) fi h = tt
  turn-full (Held x t) fi h = held-full x t
  turn-full (Split x b n q) fi h = split-full x b n q fi h
  turn-full Done fi h = tt

step-full
    : (ops : List Op) (s : State) (k : ℕ)
    → Good ops s
    → ((i : ℕ) → Full s.file (stage_of s i))
    → (i : ℕ)
    → Full (step ops s k).file (stage_of (step ops s k) i)
unfolding stage_of row_of
step-full ops s k good h =
    step_case (λ t. (i : ℕ) → Full t.file (stage_of t i)) ops s k h
    (λ lt e.
    let m = turn s (get_or ops k no_op) (stage_of s k) in
    stage-after s k m lt (λ i st. Full (file_after m s.file) st) (turn-full s (get_or ops k no_op) (stage_of s k) (good.fine k) (h k))
    (λ i n.
    full-after s.file m (stage_of s i) (λ x. held-page ops s i k good m x (i_legal ops s k good e).page (λ z. absurd (n (sym z)))) (h i)))

start-full : (f : File) (m i : ℕ) → Full (start f m).file (stage_of (start f m) i)
unfolding start stage_of row_of
start-full f m i = first_row_lem (λ r. Full f r.stage) tt tt m i

pub full : (j : Job) → FileOk j.file → (t : ℕ) → t ≤ length j.turns → (i : ℕ) → Full (state_at j t).file (stage_of (state_at j t) i)
full j ok zero l = rw (state_at-zero j) (start-full j.file (length j.ops))
full j ok (suc t) l = rw (state_at-suc j t l) (step-full j.ops _ (who j t) (whole j ok t (omega arith)).good (full j ok t (omega arith)))

-- a full page that an insert splits
module _ (f : File) (op : Op) (x : ℕ) (h : FullPage f x) where
  pub full-count : Fit f → PageOk f.g f.c (page_at f x) → Plan f op x → new_count f op x ≡ split_count (page_at f x) op.call
  full-count fit ok pl =
      new_count_lem f op x fit ok pl.here h
      (all_share-least f.g _ op.call (fit_32 f fit) ∙ lt-leb f.g _ pl.depth)
