-- What the code of a turn asks, in numbers alone: what it adds fits, and what it reads and writes lies in the memory.
use Rattle.std.specs.Prelude.{ℕ, ◌+◌, ◌≤◌, ◌<◌, ◌≡◌, List, length, Some}
use Rattle.spec.specs.declared.Rec.{Rec}
use Rattle.spec.specs.declared.Op.{Op}
use Rattle.spec.specs.declared.Kind.{Kind}
use Rattle.spec.specs.declared.Kind.TheVariants.{Search, Insert, Delete}
use Rattle.spec.specs.declared.Task.{Task}
use Rattle.spec.specs.declared.Task.TheVariants.{Verify, Release, Decide, WritePage, WriteOld, Unlock}
use Rattle.spec.specs.declared.Part.{Part}
use Rattle.spec.specs.declared.Part.TheVariants.{WriteNew, WriteEntry, UnlockNew}
use Rattle.spec.specs.declared.Stage.{Stage}
use Rattle.spec.specs.declared.Stage.TheVariants.{NotBegun, ReadPage, Reread, Lock, Held, Split, Done}
use Rattle.spec.specs.Check.{work_size}
use Rattle.spec.specs.File.{look_in}
use Rattle.spec.specs.Split.{least_shared, split_count}
use Rattle.spec.specs.Turn.{rec_of}
use Rattle.spec.specs.MostTurns.{most_used}
use Rattle.pieces.specs.Splits.{Splits}
use Rattle.memory.specs.declared.Shape.{Shape}
use Rattle.memory.specs.Memory.{page_in}
use Rattle.turn.specs.declared.Row.{Row}
use Rattle.turn.specs.Rows.{stage_in}
use Rattle.turn.specs.Steps.{named}

-- what every turn asks: room in the memory, and a shape within the limits
pub record Ready (sh : Shape) (w : List ℕ) : Type 0 where
  pub size : work_size ≤ length w
  pub depth : sh.depth ≤ 8
  pub capacity : sh.capacity ≤ 8
  pub pages : sh.pages ≤ 256

-- page x lies in the memory, and counts no more records than it has room for
pub record Readable (sh : Shape) (w : List ℕ) (x : ℕ) : Type 0 where
  pub number : x ≤ 256
  pub count : length (page_in sh.capacity w x).records ≤ sh.capacity

-- a turn of change is kept for the depth of page x, where the call's entry no longer names that page
abbrev pub Kept : Shape → Op → List ℕ → ℕ → Type 0
Kept sh op w x = (named sh op w ≡ x → ⊥) → (page_in sh.capacity w x).depth < 8

-- a search reads page x: it may find its call there though its entry no longer names that page
pub record Reading (sh : Shape) (op : Op) (w : List ℕ) (x : ℕ) : Type 0 where
  pub page : Readable sh w x
  pub stale : (c : Rec) → look_in (page_in sh.capacity w x).records op.call ≡ Some c → Kept sh op w x

-- page x is full, and splits make room in it for the insert, within the global depth
pub record Planned (sh : Shape) (op : Op) (w : List ℕ) (x : ℕ) : Type 0 where
  pub number : x ≤ 256
  pub splits : Splits sh.capacity (page_in sh.capacity w x) (rec_of op)
  pub within : least_shared (page_in sh.capacity w x).records op.call < sh.depth

-- the split of page x into itself and n new pages behind the b in use
pub record Splitting (sh : Shape) (op : Op) (w : List ℕ) (x b n : ℕ) : Type 0 where
  pub plan : Planned sh op w x
  pub count : n ≡ split_count (page_in sh.capacity w x) op.call
  pub behind : x ≤ b
  pub room : b + n ≤ 256

-- page x is written whole: an insert finds room in it
abbrev pub Writable : Shape → List ℕ → ℕ → Kind → Type 0
Writable sh w x Search = Unit {0}
Writable sh w x Insert = (x ≤ 256) × (length (page_in sh.capacity w x).records < sh.capacity)
Writable sh w x Delete = Readable sh w x

abbrev pub SafeHeld : Shape → Op → List ℕ → ℕ → Task → Type 0
SafeHeld sh op w x Verify = Unit {0}
SafeHeld sh op w x (Release y) = x ≤ 256
SafeHeld sh op w x Decide = Readable sh w x
SafeHeld sh op w x WritePage = Writable sh w x op.kind
SafeHeld sh op w x WriteOld = Planned sh op w x
SafeHeld sh op w x Unlock = x ≤ 256

abbrev pub SafeSplit : Shape → Op → List ℕ → ℕ → ℕ → ℕ → Part → Type 0
SafeSplit sh op w x b n (WriteNew i) = Splitting sh op w x b n × (1 ≤ i) × (i ≤ n)
SafeSplit sh op w x b n (WriteEntry j) = Splitting sh op w x b n × (j < 256)
SafeSplit sh op w x b n UnlockNew = b + n ≤ 256

abbrev pub SafeAt : Shape → Op → List ℕ → Stage → Type 0
SafeAt sh op w NotBegun = Unit {0}
SafeAt sh op w (ReadPage x) = Reading sh op w x
SafeAt sh op w (Reread x u) = Unit {0}
SafeAt sh op w (Lock x) = x ≤ 256
SafeAt sh op w (Held x k) = SafeHeld sh op w x k
SafeAt sh op w (Split x b n q) = SafeSplit sh op w x b n q
SafeAt sh op w Done = Unit {0}

-- "No operation .. uses more than 294": so one turn more than the row counts has room in its 16 bits
abbrev pub Few : Row → Type 0
Few r = r.used ≤ most_used

pub record Safe (sh : Shape) (op : Op) (r : Row) (w : List ℕ) : Type 0 where
  pub ready : Ready sh w
  pub few : Few r
  pub at : SafeAt sh op w (stage_in r)

-- what it asks to look whether the operation can use a turn: a page that is to be locked lies in the memory
pub record Lockable (r : Row) (w : List ℕ) : Type 0 where
  pub size : work_size ≤ length w
  pub page : (x : ℕ) → stage_in r ≡ Lock x → x ≤ 256
