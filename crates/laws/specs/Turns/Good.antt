-- What holds of every state of a run: page numbers are in range, locks are exclusive, plans stay as they were made. A legal move keeps that.
use Rattle.std.specs.Prelude.{ℕ, suc, ◌+◌, ◌<◌, ◌≤◌, ◌≡◌, refl, List, length, get_or, Option, None, Some}
use Rattle.std.proofs.Common.{sym, ◌∙◌, inl, ⊎_elim, arith, length-set, get_or-set_same, get_or-set_other}
use Rattle.std.proofs.Math.Logic.{by_cases}
use Rattle.std.proofs.Math.Decide.{ℕ_discrete}
use Rattle.spec.specs.declared.Op.{Op}
use Rattle.spec.specs.declared.Task.{Task}
use Rattle.spec.specs.declared.Task.TheVariants.{Verify, Release, Decide, WritePage, WriteOld, Unlock}
use Rattle.spec.specs.declared.Part.{Part}
use Rattle.spec.specs.declared.Part.TheVariants.{WriteNew, WriteEntry, UnlockNew}
use Rattle.spec.specs.declared.Stage.{Stage}
use Rattle.spec.specs.declared.Stage.TheVariants.{NotBegun, ReadPage, Reread, Lock, Held, Split, Done}
use Rattle.spec.specs.File.{Page, File, zero_page, page_at}
use Rattle.spec.specs.Job.{no_op}
use Rattle.spec.specs.State.{State, PageWrite, EntryWrite, Move}
use Rattle.spec.specs.Turn.{plan_of, new_count, goes_to}
use Rattle.spec.specs.Run.{table_after, directory_after, file_after, row_of, stage_of, tick, act}
use Rattle.spec.specs.Proper.{PageNo, Fit}
use Rattle.laws.specs.Turns.Owners.{new_owner_at}
use Rattle.laws.specs.Turns.Ranges.{Span, length-fill}
use Rattle.laws.specs.Turns.Rows.{stage-after}
use Rattle.laws.specs.Turns.Locks.{Holds, Locks, Rule, act-locks}
use Rattle.laws.specs.Turns.Plans.{plan_same, goes_same}

-- a split of page x into n new pages, b + 1 to b + n, as it was decided
pub record Planned (f : File) (op : Op) (x b n : ℕ) : Type 0 where
  pub number : PageNo f x
  pub below : x ≤ b
  pub top : b + n ≤ f.used
  pub count : n ≡ new_count f op x

abbrev pub FineTask : File → Task → Type 0
FineTask f Verify = Unit {0}
FineTask f (Release y) = PageNo f y
FineTask f Decide = Unit {0}
FineTask f WritePage = Unit {0}
FineTask f WriteOld = Unit {0}
FineTask f Unlock = Unit {0}

abbrev pub FinePart : File → Op → ℕ → ℕ → ℕ → Part → Type 0
FinePart f op x b n (WriteNew i) = (0 < i) × (i ≤ n)
FinePart f op x b n (WriteEntry j) = goes_to f op x b j ≡ 0 → ⊥
FinePart f op x b n UnlockNew = Unit {0}

-- the numbers of a stage are in range, and its plan is as it was made
abbrev pub Fine : File → Op → Stage → Type 0
Fine f op NotBegun = Unit {0}
Fine f op (ReadPage x) = PageNo f x
Fine f op (Reread x t) = PageNo f x
Fine f op (Lock x) = PageNo f x
Fine f op (Held x t) = PageNo f x × FineTask f t
Fine f op (Split x b n q) = Planned f op x b n × FinePart f op x b n q
Fine f op Done = Unit {0}

-- a move writes only a page that its operation holds, and into an entry only the number of a page in use
abbrev pub MayPage : Stage → Option PageWrite → Type 0
MayPage st None = Unit {0}
MayPage st (Some w) = Holds st w.number

abbrev pub MayEntry : File → Option EntryWrite → Type 0
MayEntry f None = Unit {0}
MayEntry f (Some w) = PageNo f w.number

-- what a move must be: it locks and unlocks as its stages say, the new stage is fine, and page count, page and entry are within bounds
pub record Legal (s : State) (op : Op) (st : Stage) (m : Move) : Type 0 where
  pub rule : Rule m.value s.locks m.from m.count st m.stage
  pub fine : Fine (file_after m s.file) op m.stage
  pub limit : s.file.used + m.takes ≤ s.file.limit
  pub page : MayPage st m.page
  pub entry : MayEntry s.file m.entry

-- what every state of a run is
pub record Good (ops : List Op) (s : State) : Type 0 where
  pub fit : Fit s.file
  pub size : length s.locks ≡ suc s.file.limit
  pub fine : (i : ℕ) → Fine s.file (get_or ops i no_op) (stage_of s i)
  pub locks : Locks s

-- the numbers and the plan of an operation, after a move that leaves the pages that it holds
module _ (f : File) (m : Move) (op : Op) (x b n : ℕ) (e : page_at (file_after m f) x ≡ page_at f x) where
  pub planned_after : Planned f op x b n → Planned (file_after m f) op x b n
  unfolding new_count
  planned_after h =
      record { number = omega arith; below = omega arith; top = omega arith; count = cc (h.count, plan_same f m op x e) }

  pub fine_part : (q : Part) → FinePart f op x b n q → FinePart (file_after m f) op x b n q
  fine_part (WriteNew i) h = h
  fine_part (WriteEntry j) h = λ z. h (sym (goes_same f m op x e b j) ∙ z)
  fine_part UnlockNew h = h

task_after : (f : File) (m : Move) (t : Task) → FineTask f t → FineTask (file_after m f) t
task_after f m Verify h = h
task_after f m (Release y) h = omega arith
task_after f m Decide h = h
task_after f m WritePage h = h
task_after f m WriteOld h = h
task_after f m Unlock h = h

pub fine-after
    : (f : File) (m : Move) (op : Op) (st : Stage)
    → ((p : ℕ) → Holds st p → page_at (file_after m f) p ≡ page_at f p)
    → Fine f op st
    → Fine (file_after m f) op st
fine-after f m op NotBegun a h = h
fine-after f m op (ReadPage x) a h = omega arith
fine-after f m op (Reread x t) a h = omega arith
fine-after f m op (Lock x) a h = omega arith
fine-after f m op (Held x t) a h = (omega arith, task_after f m t h.1)
fine-after f m op (Split x b n q) a h =
    (planned_after f m op x b n (a x (inl refl)) h.0, fine_part f m op x b n (a x (inl refl)) q h.1)
fine-after f m op Done a h = h

-- a page that the move does not write; sizes; entries
pub page_other
    : (t : List Page) (st : Stage) (w : Option PageWrite)
    → MayPage st w
    → (p : ℕ)
    → (Holds st p → ⊥)
    → get_or (table_after w t) p zero_page ≡ get_or t p zero_page
unfolding table_after
page_other t st None a p n = refl
page_other t st (Some w) a p n = get_or-set_other t w.number p w.page zero_page (λ e. n (rw e a))

page-size : (t : List Page) (w : Option PageWrite) → length (table_after w t) ≡ length t
unfolding table_after
page-size t None = refl
page-size t (Some w) = length-set t w.number w.page

entry-size : (d : List ℕ) (w : Option EntryWrite) → length (directory_after w d) ≡ length d
unfolding directory_after
entry-size d None = refl
entry-size d (Some w) = length-set d w.entry w.number

entry_other
    : (f : File) (w : Option EntryWrite)
    → MayEntry f w
    → (j : ℕ)
    → j < length f.directory
    → PageNo f (get_or f.directory j 0)
    → PageNo f (get_or (directory_after w f.directory) j 0)
unfolding directory_after
entry_other f None a j lt h = h
entry_other f (Some w) a j lt h =
    by_cases (ℕ_discrete j w.entry) (λ e. rw (e, get_or-set_same f.directory w.entry w.number 0 (omega arith)) a)
    (λ e. rw (get_or-set_other f.directory w.entry j w.number 0 e) h)

-- a page in use has a place in the table
pub page-lt : (f : File) → Fit f → (x : ℕ) → x ≤ f.used → x < length f.table
page-lt f fit x l = omega (arith, fit.pages, fit.within)

-- a page that a fine stage holds is in use
pub held_no : (f : File) (op : Op) (st : Stage) → Fine f op st → (p : ℕ) → Holds st p → PageNo f p
held_no f op NotBegun h p k = absurd k
held_no f op (ReadPage x) h p k = absurd k
held_no f op (Reread x t) h p k = absurd k
held_no f op (Lock x) h p k = absurd k
held_no f op (Held x t) h p k = omega arith
held_no f op (Split x b n q) h p k = ⊎_elim (λ e. omega arith) (λ e. omega arith) k
held_no f op Done h p k = absurd k

-- a move of operation i leaves the pages that another holds
pub other_page
    : (ops : List Op) (s : State) (i j : ℕ) (m : Move)
    → Good ops s
    → MayPage (stage_of s i) m.page
    → (j ≡ i → ⊥)
    → (p : ℕ)
    → Holds (stage_of s j) p
    → page_at (file_after m s.file) p ≡ page_at s.file p
unfolding page_at
other_page ops s i j m good may n p h =
    page_other s.file.table (stage_of s i) m.page may p (λ k. n (good.locks.apart j i p h k))

pub act_good
    : (ops : List Op) (s : State) (i : ℕ) (m : Move)
    → i < length s.rows
    → Good ops s
    → Legal s (get_or ops i no_op) (stage_of s i) m
    → Good ops (act s i m)
act_good ops s i m lt good l =
    record {
      fit = record {
        depth = good.fit.depth;
        capacity = good.fit.capacity;
        most = good.fit.most;
        least = omega (arith, good.fit.least);
        within = l.limit;
        size = entry-size _ m.entry ∙ good.fit.size;
        pages = page-size _ m.page ∙ good.fit.pages;
        entries = λ j h. let k = entry_other s.file m.entry l.entry j (omega arith) (good.fit.entries j h) in omega arith;
      };
      size = length-fill _ _ _ _ ∙ good.size;
      fine =
          stage-after s i m lt (λ j st. Fine (file_after m s.file) (get_or ops j no_op) st) l.fine
          (λ j e.
          fine-after s.file m _ (stage_of s j) (other_page ops s i j m good l.page e) (good.fine j));
      locks = act-locks s i m lt good.locks _ refl l.rule;
    }

pub tick_good : (ops : List Op) (s : State) → Good ops s → Good ops (tick s)
unfolding stage_of row_of
tick_good ops s good =
    record {
      fit = good.fit;
      size = good.size;
      fine = good.fine;
      locks = record { holder = good.locks.holder; locked = good.locks.locked; apart = good.locks.apart };
    }

-- an entry that goes to a new page goes to one of those that were planned
pub goes_span : (f : File) (op : Op) (x b n e : ℕ) → Planned f op x b n → (goes_to f op x b e ≡ 0 → ⊥) → Span (suc b) n (goes_to f op x b e)
unfolding goes_to new_count
goes_span f op x b n e pl g = let o = new_owner_at f.g (plan_of f op x).news (suc b) e zero_page g in omega (arith, o.1, o.2, pl.count)
