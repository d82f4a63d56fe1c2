-- "Turns": a move applied, one turn given to an operation, and the run of a turn list.
use Rattle.std.specs.Prelude.{ℕ, zero, suc, ◌+◌, List, [], ◌∷◌, Bool, true, false, length, get_or, set, replicate, Option, None, Some}
use Rattle.spec.specs.declared.Op.{Op}
use Rattle.spec.specs.declared.Stage.{Stage}
use Rattle.spec.specs.declared.Stage.TheVariants.{NotBegun, ReadPage, Reread, Lock, Held, Split, Done}
use Rattle.spec.specs.Basics.{if}
use Rattle.spec.specs.File.{Page, File, entry_at}
use Rattle.spec.specs.Job.{Job, no_op}
use Rattle.spec.specs.State.{Row, Change, State, Answer, same, answer, PageWrite, EntryWrite, Move, blank, gone}
use Rattle.spec.specs.Turn.{turn}

-- n places of a list, from i on, become v
unfoldable pub fill : {A : Type 0} → List A → ℕ → ℕ → A → List A
fill l i zero v = l
fill l i (suc n) v = fill (set l i v) (suc i) n v

unfoldable pub table_after : Option PageWrite → List Page → List Page
table_after None t = t
table_after (Some w) t = set t w.number w.page

unfoldable pub directory_after : Option EntryWrite → List ℕ → List ℕ
directory_after None d = d
directory_after (Some w) d = set d w.entry w.number

unfoldable pub changes_after : Option EntryWrite → State → List Change
changes_after None s = s.changes
changes_after (Some w) s = record { turn = s.now; entry = w.entry; from = entry_at s.file w.entry } ∷ s.changes

abbrev pub file_after : Move → File → File
file_after m f =
    record {
      g = f.g;
      c = f.c;
      limit = f.limit;
      used = f.used + m.takes;
      directory = directory_after m.entry f.directory;
      table = table_after m.page f.table;
    }

abbrev pub locks_after : Move → List Bool → List Bool
locks_after m l = fill l m.from m.count m.value

unfoldable pub code_after : Answer → Row → ℕ
code_after same r = r.code
code_after (answer k c x t) r = k

unfoldable pub charge_after : Answer → Row → ℕ
charge_after same r = r.charge
charge_after (answer k c x t) r = c

unfoldable pub page_after : Answer → Row → ℕ
page_after same r = r.page
page_after (answer k c x t) r = x

unfoldable pub moment_after : Answer → Row → ℕ
moment_after same r = r.moment
moment_after (answer k c x t) r = t

-- "turns used without waiting"
abbrev pub row_after : Move → Row → Row
row_after m r =
    record {
      stage = m.stage;
      used = r.used + 1;
      code = code_after m.answer r;
      charge = charge_after m.answer r;
      page = page_after m.answer r;
      moment = moment_after m.answer r;
    }

unfoldable pub row_of : State → ℕ → Row
row_of s i = get_or s.rows i gone

unfoldable pub stage_of : State → ℕ → Stage
stage_of s i = (row_of s i).stage

-- An operation at this stage uses no turn. "if it is locked, the turn only waits"; "A turn for a finished operation does nothing"
unfoldable pub idle : List Bool → Stage → Bool
idle l NotBegun = false
idle l (ReadPage x) = false
idle l (Reread x t) = false
idle l (Lock x) = get_or l x false
idle l (Held x t) = false
idle l (Split x b n q) = false
idle l Done = true

abbrev pub tick : State → State
tick s = record { file = s.file; locks = s.locks; rows = s.rows; changes = s.changes; now = s.now + 1 }

abbrev pub act : State → ℕ → Move → State
act s i m =
    record {
      file = file_after m s.file;
      locks = locks_after m s.locks;
      rows = set s.rows i (row_after m (row_of s i));
      changes = changes_after m.entry s;
      now = s.now + 1;
    }

-- "One turn is one step of the operation it names"
unfoldable pub step : List Op → State → ℕ → State
step ops s i =
    let moved = act s i (turn s (get_or ops i no_op) (stage_of s i)) in
    if (idle s.locks (stage_of s i)) (tick s) moved

-- "The turn list starts from the file as it came in, no page locked and no operation begun"
unfoldable pub start : File → ℕ → State
start f m = record { file = f; locks = replicate (suc f.limit) false; rows = replicate m blank; changes = []; now = 0 }

unfoldable pub steps : List Op → State → List ℕ → State
steps ops s [] = s
steps ops s (t ∷ ts) = steps ops (step ops s t) ts

unfoldable pub run : Job → State
run j = steps j.ops (start j.file (length j.ops)) j.turns
