-- What a turn does, as a record of obligations: the file stays in order (`Coherent`), and what it holds changes only as the turn's answer says,
-- for the operation's call alone. Definitions only.
use Rattle.std.specs.Prelude.{ℕ, suc, ◌<◌, ◌≤◌, ◌≡◌, ◌⊎◌, List, length, get_or, Option, None, Some}
use Rattle.spec.specs.declared.Rec.{Rec}
use Rattle.spec.specs.declared.Op.{Op}
use Rattle.spec.specs.declared.Kind.TheVariants.{Search}
use Rattle.spec.specs.declared.Task.{Task}
use Rattle.spec.specs.declared.Task.TheVariants.{Verify, Release, Decide, WritePage, WriteOld, Unlock}
use Rattle.spec.specs.declared.Part.{Part}
use Rattle.spec.specs.declared.Part.TheVariants.{WriteNew, WriteEntry, UnlockNew}
use Rattle.spec.specs.declared.Stage.{Stage}
use Rattle.spec.specs.declared.Stage.TheVariants.{NotBegun, ReadPage, Reread, Lock, Held, Split, Done}
use Rattle.spec.specs.Key.{index}
use Rattle.spec.specs.File.{File, page_at, entry_at, find_in}
use Rattle.spec.specs.Job.{no_op}
use Rattle.spec.specs.Code.{found, not_found, stored}
use Rattle.spec.specs.State.{State, Answer, same, answer, PageWrite, EntryWrite, Move}
use Rattle.spec.specs.Turn.{home_of, found_moment}
use Rattle.spec.specs.Run.{file_after, stage_of}
use Rattle.spec.specs.Proper.{In, PageOk}
use Rattle.laws.specs.Turns.Ranges.{Span}
use Rattle.laws.specs.Turns.Work.{Work, MayTurn}
use Rattle.laws.specs.Turns.Lookup.{lookup}
use Rattle.laws.specs.Turns.Says.{Says}

-- an insert's or a delete's answer of code k and page x is given from this stage: on turn (d) or behind it, on page x; or it is "stored"
pub data From : Stage → ℕ → ℕ → Type 0 where
  storing : {st : Stage} {x : ℕ} → From st stored x
  deciding : {k x : ℕ} → From (Held x Decide) k x
  writing : {k x : ℕ} → From (Held x WritePage) k x

-- What the answer of a turn from stage st says of what the file held of the operation's call, a, and holds, b, and of the page y that the call's
-- own entry then names. A search's answer speaks of its own moment, and of the page that it read; the codes of the others begin with "stored".
pub data Own (s : State) (st : Stage) (op : Op) (a b : Option Rec) (y : ℕ) : Answer → Type 0 where
  quiet : b ≡ a → Own s st op a b y same
  sees
      : (x : ℕ) (r : Rec)
      → op.kind ≡ Search
      → st ≡ ReadPage x
      → find_in (page_at s.file x).records op.call ≡ Some r
      → b ≡ a
      → Own s st op a b y (answer found r.charge x (found_moment s op x))
  sees_none
      : (x t : ℕ)
      → op.kind ≡ Search
      → st ≡ Reread x t
      → entry_at s.file (home_of s.file op) ≡ x
      → b ≡ a
      → Own s st op a b y (answer not_found 0 x t)
  says : {k c x : ℕ} → stored ≤ k → y ≡ x → From st k x → Says op a b k c → Own s st op a b y (answer k c x s.now)

-- every page is as it should be, every call's entry names the page that the call is of, and each operation's work stands as its stage says
pub record Coherent (ops : List Op) (s : State) : Type 0 where
  pub pages : (x : ℕ) → PageOk s.file.g s.file.c (page_at s.file x)
  pub home : (k : ℕ) → In (page_at s.file (entry_at s.file (index s.file.g k))) k
  pub work : (i : ℕ) → Work s.file (get_or ops i no_op) (stage_of s i)

-- p is a new page of a split that no entry names yet
pub data Unreached : Stage → ℕ → Type 0 where
  fresh : {x b n i p : ℕ} → Span (suc b) n p → Unreached (Split x b n (WriteNew i)) p

-- a turn that comes to write new pages has just taken them
abbrev pub StartsPart : State → Stage → ℕ → ℕ → Part → Type 0
StartsPart s st b n (WriteNew i) = (p : ℕ) → Span (suc b) n p → Unreached st p ⊎ (s.file.used < p)
StartsPart s st b n (WriteEntry j) = Unit {0}
StartsPart s st b n UnlockNew = Unit {0}

-- one that comes to write its page has decided
abbrev pub StartsTask : Stage → ℕ → Task → Type 0
StartsTask st x Verify = Unit {0}
StartsTask st x (Release y) = Unit {0}
StartsTask st x Decide = Unit {0}
StartsTask st x WritePage = st ≡ Held x Decide
StartsTask st x WriteOld = Unit {0}
StartsTask st x Unlock = Unit {0}

-- a turn that comes to a search's stages has read the entry, or the page
abbrev pub Starts : State → Op → Stage → Stage → Type 0
Starts s op st NotBegun = Unit {0}
Starts s op st (ReadPage y) = entry_at s.file (home_of s.file op) ≡ y
Starts s op st (Reread x t) = (st ≡ ReadPage x) × (t ≡ s.now) × (find_in (page_at s.file x).records op.call ≡ None)
Starts s op st (Lock x) = Unit {0}
Starts s op st (Held x t) = StartsTask st x t
Starts s op st (Split x b n q) = StartsPart s st b n q
Starts s op st Done = Unit {0}

-- what is found in a page that is written, of a call whose entry names another page, was found there before; or no entry names the page yet
abbrev pub Sub : File → Stage → Option PageWrite → Type 0
Sub f st None = Unit {0}
Sub f st (Some w) =
    Unreached st w.number
    ⊎ ((k : ℕ) (r : Rec)
    → find_in w.page.records k ≡ Some r
    → (entry_at f (index f.g k) ≡ w.number → ⊥)
    → find_in (page_at f w.number).records k ≡ Some r)

-- an entry that is written comes to name a higher page, and the page that it named does not hold the call
abbrev pub Rises : File → Op → Option EntryWrite → Type 0
Rises f op None = Unit {0}
Rises f op (Some w) =
    (entry_at f w.entry < w.number)
    × (find_in (page_at f (entry_at f w.entry)).records op.call ≡ None)
    × (w.entry < length f.directory)

-- a turn writes a page or an entry or neither, and of the entry only one that names a page held; the file stays in order, with the operation's
-- work as its new stage says; what is held of other calls stays, and of its own changes as the answer says;
-- and an insert's or a delete's page is the one that the call's entry then names
pub record Does (s : State) (op : Op) (st : Stage) (m : Move) : Type 0 where
  pub single : (m.entry ≡ None) ⊎ (m.page ≡ None)
  pub turns : MayTurn s.file st m.entry
  pub rises : Rises s.file op m.entry
  pub sub : Sub s.file st m.page
  pub starts : Starts s op st m.stage
  pub pages : (x : ℕ) → PageOk s.file.g s.file.c (page_at (file_after m s.file) x)
  pub home : (k : ℕ) → In (page_at (file_after m s.file) (entry_at (file_after m s.file) (index s.file.g k))) k
  pub work : Work (file_after m s.file) op m.stage
  pub others : (k : ℕ) → (k ≡ op.call → ⊥) → lookup (file_after m s.file) k ≡ lookup s.file k
  pub own
      : Own s st op (lookup s.file op.call) (lookup (file_after m s.file) op.call) (entry_at (file_after m s.file) (home_of s.file op))
      m.answer
