-- A working memory that shows a state of the machine: what is read of it is what the state has.
use Rattle.std.specs.Prelude.{ℕ, ◌^◌, ◌≤◌, ◌<◌, ◌≡◌, List, Bool, false, length, get_or}
use Rattle.spec.specs.File.{File, page_at, entry_at}
use Rattle.spec.specs.Encode.{page_bytes}
use Rattle.spec.specs.Split.{digit}
use Rattle.spec.specs.State.{State}
use Rattle.spec.specs.Run.{row_of}
use Rattle.spec.specs.Check.{work_size}
use Rattle.laws.specs.Turns.Slots.{Slots}
use Rattle.memory.specs.declared.Shape.{Shape}
use Rattle.memory.specs.Memory.{entry_in, lock_in, used_in, turn_in, part_in}
use Rattle.turn.specs.Rows.{row_image}
use Rattle.turn.specs.Steps.{Out}

-- the shape of a file
abbrev pub shape_of : File → Shape
shape_of f = record { depth = f.g; capacity = f.c; pages = f.limit }

-- of a file and its locks
pub record Picture (f : File) (l : List Bool) (w : List ℕ) : Type 0 where
  pub long : work_size ≤ length w
  pub entries : (j : ℕ) → j < 2 ^ f.g → entry_in w j ≡ entry_at f j
  pub locks : (x : ℕ) → x ≤ f.limit → lock_in w x ≡ digit (get_or l x false)
  pub used : used_in w ≡ f.used
  pub pages : (x : ℕ) → 1 ≤ x → x ≤ f.limit → part_in f.c w x ≡ page_bytes f.c (page_at f x)

pub record Shown (s : State) (w : List ℕ) : Type 0 where
  pub picture : Picture s.file s.locks w
  -- the turn of a change stands under the entry and the depth of the page that it left
  pub turns : Slots (turn_in w) s

-- what a turn leaves is a state of the machine, for operation i
pub record Meets (s : State) (i : ℕ) (o : Out) : Type 0 where
  pub shown : Shown s o.work
  pub row : o.row ≡ row_image (row_of s i)
