-- A bound of the turns that can still be used. For each operation: what its stage has left; three turns more for each time that its entry can
-- still change, and three where it has changed since it was read. For the file: a turn for each time that an entry can still change, and two for
-- each page that is not in use, one to write it and one towards the unlocking. Every turn that is used takes one away, whoever uses it.
use Rattle.std.specs.Prelude.{ℕ, suc, ◌+◌, ◌-◌, ◌*◌, ◌^◌, ◌<◌, ◌≤◌, ◌≡◌, refl, ◌⊎◌, List, false, length, get_or, replicate, eqb, Option, None, Some}
use Rattle.std.proofs.Common.{ap, true≢false, get_or-set_same}
use Rattle.std.proofs.Math.Logic.{inl, inr, ⊎_elim, by_cases}
use native.Mathlib.Omega.{arith}
use Rattle.std.proofs.Math.Decide.{ℕ_discrete}
use borrow.Author.Tests.{eq-eqb, ltb-true}
use Rattle.spec.specs.declared.Rec.{Rec}
use Rattle.spec.specs.declared.Op.{Op}
use Rattle.spec.specs.declared.Kind.{Kind}
use Rattle.spec.specs.declared.Kind.TheVariants.{Search, Insert, Delete}
use Rattle.spec.specs.declared.Task.{Task}
use Rattle.spec.specs.declared.Task.TheVariants.{Verify, Release, Decide, WritePage, WriteOld, Unlock}
use Rattle.spec.specs.declared.Part.{Part}
use Rattle.spec.specs.declared.Part.TheVariants.{WriteNew, WriteEntry, UnlockNew}
use Rattle.spec.specs.declared.Stage.{Stage}
use Rattle.spec.specs.declared.Stage.TheVariants.{NotBegun, ReadPage, Reread, Lock, Held, Split, Done}
use Rattle.spec.specs.Basics.{if}
use Rattle.spec.specs.File.{File, page_at, entry_at, found_of}
use Rattle.spec.specs.Job.{no_op}
use Rattle.spec.specs.State.{State, same, EntryWrite, Move, blank, gone, go}
use Rattle.spec.specs.Turn.{home_of, entry_of, rec_of, plan_of, new_count, begin, looked, looked_at, reread, decided, written, verified, old_written, held_turn, entries_from, split_turn, turn}
use Rattle.spec.specs.Proper.{Fit}
use Rattle.spec.specs.Run.{directory_after, file_after, row_of, stage_of, idle, act, step, start}
use Rattle.laws.specs.Tools.{if_case, if-true, if-false}
use Rattle.laws.specs.Turns.Sums.{sum_to, sum_most, sum-le, sum_at}
use Rattle.laws.specs.Turns.Count.{count-full}
use Rattle.laws.specs.Turns.Rows.{stage_of_other, stage_of_same, moves_row, first_row_lem}
use Rattle.laws.specs.Turns.Plans.{entries_case}
use Rattle.laws.specs.Turns.Good.{FinePart, Fine, Good}
use Rattle.laws.specs.Turns.Decision.{decided_case}
use Rattle.laws.specs.Turns.Does.{Coherent, Does}
use Rattle.laws.specs.Turns.Coherent.{i_does}
use Rattle.laws.specs.Turns.Settled.{Settled}
use Rattle.laws.specs.Turns.Writes.{WritesEntry, no_entry, one_entry, Writes, i_writes}
use Rattle.laws.specs.Turns.Rising.{entry-deep, entry_deeper}
use Rattle.laws.specs.Turns.Rounds.{step_moves}

-- the turns that an operation at this stage has left, where its entry stays as it is, but for those that write entries
unfoldable task_left : Task → ℕ
task_left Verify = 4
task_left (Release y) = 6
task_left Decide = 3
task_left WritePage = 2
task_left WriteOld = 2
task_left Unlock = 1

unfoldable part_left : ℕ → Part → ℕ
part_left n (WriteNew i) = n + 4 - i
part_left n (WriteEntry j) = 3
part_left n UnlockNew = 3

unfoldable stage_left : Stage → ℕ
stage_left NotBegun = 6
stage_left (ReadPage x) = 2
stage_left (Reread x t) = 1
stage_left (Lock x) = 5
stage_left (Held x t) = task_left t
stage_left (Split x b n q) = part_left n q
stage_left Done = 0

-- the page that the operation has read in its entry, where it is to look again whether the entry names it
unfoldable task_read : ℕ → Task → Option ℕ
task_read x Verify = Some x
task_read x (Release y) = Some y
task_read x Decide = None
task_read x WritePage = None
task_read x WriteOld = None
task_read x Unlock = None

unfoldable page_read : Stage → Option ℕ
page_read NotBegun = None
page_read (ReadPage x) = Some x
page_read (Reread x t) = Some x
page_read (Lock x) = Some x
page_read (Held x t) = task_read x t
page_read (Split x b n q) = None
page_read Done = None

-- three turns more, where the entry names another page by now
unfoldable again : ℕ → Option ℕ → ℕ
again y None = 0
again y (Some x) = if (eqb y x) 0 3

-- how often entry e can still change, since the depth of the page that it names rises each time
unfoldable changes_left : File → ℕ → ℕ
changes_left f e = f.g - (page_at f (entry_at f e)).depth

-- what is left of one operation at this stage; of operation i; and of all, with the file
unfoldable op_left : File → Op → Stage → ℕ
op_left f op st = stage_left st + (again (entry_of f op) (page_read st) + 3 * changes_left f (home_of f op))

abbrev row_left : List Op → State → ℕ → ℕ
row_left ops s i = op_left s.file (get_or ops i no_op) (stage_of s i)

pub remaining : List Op → State → ℕ
remaining ops s =
    sum_to (length ops) (row_left ops s)
    + sum_to (2 ^ s.file.g) (changes_left s.file)
    + 2 * (s.file.limit - s.file.used)

-- how many entries a turn writes
unfoldable wrote : Option EntryWrite → ℕ
wrote None = 0
wrote (Some w) = 1

-- what the operation's own turn takes away, reckoned with the entry as it was before the turn
module _ (s : State) (op : Op) where
  abbrev f : File
  f = s.file

  abbrev Paid : Stage → Move → Type 0
  Paid st m =
      stage_left m.stage + again (entry_of f op) (page_read m.stage) + 2 * (f.limit - (f.used + m.takes)) + 1
      ≤ stage_left st + again (entry_of f op) (page_read st) + 2 * (f.limit - f.used) + wrote m.entry

  again_same : (y : ℕ) → again y (Some y) ≡ 0
  unfolding again
  again_same y = if-true _ _ (eq-eqb y y refl)

  again_other : (y x : ℕ) → eqb y x ≡ false → again y (Some x) ≡ 3
  unfolding again
  again_other y x e = if-false _ _ e

  begin_paid : (k : Kind) → Paid NotBegun (go (begin k (entry_of f op)) same)
  unfolding begin stage_left page_read wrote
  begin_paid Search = omega (arith, again_same (entry_of f op))
  begin_paid Insert = omega (arith, again_same (entry_of f op))
  begin_paid Delete = omega (arith, again_same (entry_of f op))

  looked_paid : (x : ℕ) (o : Option Rec) → Paid (ReadPage x) (looked s op (found_of x o))
  unfolding looked_at stage_left page_read wrote again
  looked_paid x None = omega arith
  looked_paid x (Some r) = omega arith

  reread_paid : (x t : ℕ) → Paid (Reread x t) (reread s op x t)
  unfolding reread stage_left page_read wrote again
  reread_paid x t =
      if_case (Paid (Reread x t)) (λ e. omega arith)
      (λ e. omega (arith, again_other (entry_of f op) x e, again_same (entry_of f op)))

  verified_paid : (x : ℕ) → Paid (Held x Verify) (verified s op x)
  unfolding verified stage_left task_left page_read task_read wrote again
  verified_paid x =
      if_case (Paid (Held x Verify)) (λ e. omega arith)
      (λ e. omega (arith, again_other (entry_of f op) x e, again_same (entry_of f op)))

  -- a split: two turns are set aside for each of its pages, so there is one for the unlocking
  decided_paid : (x : ℕ) (o : Option Rec) → Paid (Held x Decide) (decided s op op.kind (found_of x o))
  unfolding new_count plan_of stage_left task_left part_left page_read task_read wrote again
  decided_paid x =
      decided_case s op x (Paid (Held x Decide)) (λ a. omega arith) (omega arith)
      (λ full fits.
      let Some : 0 < new_count f op x = rw (count-full f.c f.g (page_at f x) (rec_of op) full) (omega arith) in
      omega arith)

  written_paid : (x : ℕ) (k : Kind) → Paid (Held x WritePage) (written s op x k (page_at f x))
  unfolding written stage_left task_left page_read task_read wrote again
  written_paid x Search = omega arith
  written_paid x Insert = omega arith
  written_paid x Delete = omega arith

  held_paid : (x : ℕ) (t : Task) → Paid (Held x t) (held_turn s op x t)
  unfolding held_turn old_written stage_left task_left page_read task_read wrote again
  held_paid x Verify = verified_paid x
  held_paid x (Release y) = omega arith
  held_paid x Decide = decided_paid x _
  held_paid x WritePage = written_paid x _
  held_paid x WriteOld = omega arith
  held_paid x Unlock = omega arith

  -- the entries of a split, or the unlocking of its pages, leave three turns
  entries_left : (x b n j : ℕ) → part_left n (entries_from f op x b j) ≡ 3
  unfolding part_left
  entries_left x b n j = entries_case (λ q. part_left n q ≡ 3) f op x b j (λ k h. refl) (λ h. refl)

  split_paid : (x b n : ℕ) (q : Part) → FinePart f op x b n q → Paid (Split x b n q) (split_turn s op x b n q)
  unfolding split_turn stage_left part_left task_left page_read task_read wrote again
  split_paid x b n (WriteNew i) h =
      if_case (λ q. part_left n q + 0 + 2 * (f.limit - (f.used + 0)) + 1 ≤ n + 4 - i + 0 + 2 * (f.limit - f.used) + 0)
      (λ e. omega (arith, ltb-true i n e)) (λ e. omega (arith, entries_left x b n 0))
  split_paid x b n (WriteEntry j) h = omega (arith, entries_left x b n (suc j))
  split_paid x b n UnlockNew h = omega arith

  turn_paid : (st : Stage) → Fine f op st → idle s.locks st ≡ false → Paid st (turn s op st)
  unfolding turn stage_left task_left page_read task_read wrote again idle
  turn_paid NotBegun h e = begin_paid _
  turn_paid (ReadPage x) h e = looked_paid x _
  turn_paid (Reread x t) h e = reread_paid x t
  turn_paid (Lock x) h e = omega arith
  turn_paid (Held x t) h e = held_paid x t
  turn_paid (Split x b n q) h e = split_paid x b n q h.1
  turn_paid Done h e = absurd (true≢false e)

again-most : (y : ℕ) (o : Option ℕ) → again y o ≤ 3
unfolding again
again-most y None = omega arith
again-most y (Some x) = if_case (λ n. n ≤ 3) (λ e. omega arith) (λ e. omega arith)

-- where an entry is written, it is one of the directory's, and comes to name another page
entry-written
    : (f : File) (st : Stage) (o : Option EntryWrite)
    → Fit f
    → WritesEntry f st o
    → (wrote o ≡ 0) ⊎ ((j : ℕ) × (j < 2 ^ f.g) × (entry_at f j < get_or (directory_after o f.directory) j 0) × (wrote o ≡ 1))
unfolding wrote directory_after entry_at
entry-written f st o fit no_entry = inl refl
entry-written f st o fit (one_entry {x} {b} {n} {j} {y} at l u d) =
    inr (j, l, rw (get_or-set_same f.directory j y 0 (omega (arith, fit.size)), at) u, refl)

-- what a turn does to what is left of the file, and of any operation at the stage that it is in
module _ (ops : List Op) (s : State) (i : ℕ) (m : Move)
    (good : Good ops s)
    (coherent : Coherent ops s)
    (d : Does s (get_or ops i no_op) (stage_of s i) m)
    (w : Writes s.file (stage_of s i) m)
  where
    abbrev f' : File
    f' = file_after m s.file

    -- an entry that changes can change less often
    entry_left
        : (e : ℕ)
        → ((entry_at f' e ≡ entry_at s.file e) × (changes_left f' e ≤ changes_left s.file e))
        ⊎ (changes_left f' e < changes_left s.file e)
    unfolding changes_left
    entry_left e =
        by_cases (ℕ_discrete (entry_at f' e) (entry_at s.file e))
        (λ z. inl (z, omega (arith, entry-deep ops s i m good coherent d w e)))
        (λ n. inr (omega (arith, entry_deeper ops s i m good coherent d w e n, (d.pages (entry_at f' e)).deep)))

    again_left
        : (e : ℕ) (o : Option ℕ)
        → again (entry_at f' e) o + 3 * changes_left f' e ≤ again (entry_at s.file e) o + 3 * changes_left s.file e
    again_left e o =
        ⊎_elim (λ a. let z : again (entry_at f' e) o ≡ again (entry_at s.file e) o = ap (λ y. again y o) a.0 in omega (arith, a.1))
        (λ a. omega (arith, again-most (entry_at f' e) o))
        (entry_left e)

    op_less : (op : Op) (st : Stage) → op_left f' op st ≤ op_left s.file op st
    unfolding op_left entry_of home_of
    op_less op st = omega (arith, again_left (home_of s.file op) (page_read st))

    directory_left : sum_to (2 ^ s.file.g) (changes_left f') + wrote m.entry ≤ sum_to (2 ^ s.file.g) (changes_left s.file)
    unfolding entry_at
    directory_left =
        ⊎_elim
        (λ (z : wrote m.entry ≡ 0). omega (arith, sum-le (changes_left s.file) (changes_left f') (2 ^ s.file.g) (λ e l. less e)))
        (λ v.
        omega (
          arith,
          v.3,
          sum_at (changes_left s.file) (changes_left f') (2 ^ s.file.g) v.0 1 0 v.1 (λ e n. less e)
              (⊎_elim (λ a. absurd (omega (arith, a.0, v.2))) (λ a. omega arith) (entry_left v.0)),
        ))
        (entry-written s.file (stage_of s i) m.entry good.fit w.entry)
      where
        less : (e : ℕ) → changes_left f' e ≤ changes_left s.file e
        less e = ⊎_elim (λ a. a.1) (λ a. omega arith) (entry_left e)

    others : (j : ℕ) → (j ≡ i → ⊥) → row_left ops (act s i m) j ≤ row_left ops s j
    others j e = rw (stage_of_other s i j m e) (op_less (get_or ops j no_op) (stage_of s j))

    own
        : i < length s.rows
        → Paid s (get_or ops i no_op) (stage_of s i) m
        → row_left ops (act s i m) i + (2 * (s.file.limit - (s.file.used + m.takes)) + 1)
        ≤ row_left ops s i + (2 * (s.file.limit - s.file.used) + wrote m.entry)
    unfolding op_left
    own lt p = rw (stage_of_same s i m lt) (omega (arith, op_less (get_or ops i no_op) m.stage))

    act_remaining : length s.rows ≡ length ops → i < length s.rows → Paid s (get_or ops i no_op) (stage_of s i) m → remaining ops (act s i m) < remaining ops s
    unfolding remaining
    act_remaining rows lt p =
        omega (arith, sum_at (row_left ops s) (row_left ops (act s i m)) (length ops) i _ _ (omega arith) others (own lt p), directory_left)

-- a turn that is used takes one away at least
pub step_remaining
    : (ops : List Op) (s : State) (i : ℕ)
    → Good ops s
    → Coherent ops s
    → Settled ops s
    → length s.rows ≡ length ops
    → idle s.locks (stage_of s i) ≡ false
    → remaining ops (step ops s i) < remaining ops s
step_remaining ops s i good coherent settled rows e =
    rw (step_moves ops s i e)
    (act_remaining ops s i _ good coherent (i_does ops s i good coherent) (i_writes ops s i good coherent settled) rows (moves_row s i e)
    (turn_paid s (get_or ops i no_op) (stage_of s i) (good.fine i) e))

-- what is left of an entry, and of an operation that has not begun or is not there
changes-most : (f : File) (e : ℕ) → changes_left f e ≤ f.g
unfolding changes_left
changes-most f e = omega arith

op-most : (f : File) (op : Op) (m i : ℕ) → op_left f op (get_or (replicate m blank) i gone).stage ≤ 6 + 3 * f.g
unfolding op_left stage_left page_read again
op-most f op m i =
    let h = changes-most f (home_of f op) in
    first_row_lem (λ r. op_left f op r.stage ≤ 6 + 3 * f.g) (omega arith) (omega arith) m i

-- at the start: for each operation 6 turns, and 3 for each of g retries; g changes of each entry; two for each page not in use
pub start_remaining
    : (ops : List Op) (f : File) (m : ℕ)
    → remaining ops (start f m) ≤ length ops * (6 + 3 * f.g) + 2 ^ f.g * f.g + 2 * (f.limit - f.used)
unfolding remaining start stage_of row_of
start_remaining ops f m =
    omega (arith, sum_most (length ops) (6 + 3 * f.g) (row_left ops (start f m)) (λ i. op-most f (get_or ops i no_op) m i), sum_most (2 ^ f.g) f.g (changes_left f) (changes-most f))
