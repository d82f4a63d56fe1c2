-- An operation's row in numbers: its stage as a number and up to four others, its turns used, and its answer.
use Rattle.std.specs.Prelude.{ℕ, ◌+◌, ◌-◌, ◌%◌, eqb}
use Rattle.spec.specs.declared.Task.{Task}
use Rattle.spec.specs.declared.Task.TheVariants.{Verify, Release, Decide, WritePage, WriteOld, Unlock}
use Rattle.spec.specs.declared.Part.{Part}
use Rattle.spec.specs.declared.Part.TheVariants.{WriteNew, WriteEntry, UnlockNew}
use Rattle.spec.specs.declared.Stage.{Stage}
use Rattle.spec.specs.declared.Stage.TheVariants.{NotBegun, ReadPage, Reread, Lock, Held, Split, Done}
use Rattle.spec.specs.Basics.{if}
use Rattle.spec.specs.State.{Row as State-Row}
use Rattle.spec.specs.Code.{found, not_found, stored, already_there, deleted, absent, no_depth, no_page, differs}
use Rattle.turn.specs.declared.Row.{Row}
use Rattle.turn.specs.declared.codes.Code.{Code}
use Rattle.turn.specs.declared.codes.Code.TheVariants.{Found, NotFound, Stored, AlreadyThere, Deleted, Absent, NoDepth, NoPage, Differs}

-- "the page number less one": a page number in a byte. Pages count from 1 to 256, and no page, which is 0, is 0; with the remainder every
-- number has one.
unfoldable pub byte_of_page : ℕ → ℕ
byte_of_page x = (x - 1) % 256

-- The numbers of a stage: which it is; the page read, wanted or held (`page`); a second page or a turn, or the pages in use before the split
-- (`base`); the number of new pages (`count`); the new page or the entry that comes next (`next`). An operation not begun is all zeros. All but
-- `base` are bytes, and of a number that is no byte the low byte stands here: no stage of a run has such a number (`Turns/Fields` of the laws), so
-- that a row tells its stage (`simulation`, `stage_back`).
pub record Numbers : Type 0 where
  pub stage : ℕ
  pub page : ℕ
  pub base : ℕ
  pub count : ℕ
  pub next : ℕ

abbrev pub numbers : ℕ → ℕ → ℕ → ℕ → ℕ → Numbers
numbers k x b n j = record { stage = k; page = byte_of_page x; base = b; count = n % 256; next = j % 256 }

unfoldable pub task_numbers : ℕ → Task → Numbers
task_numbers x Verify = numbers 4 x 0 0 0
task_numbers x (Release y) = numbers 5 x y 0 0
task_numbers x Decide = numbers 6 x 0 0 0
task_numbers x WritePage = numbers 7 x 0 0 0
task_numbers x WriteOld = numbers 8 x 0 0 0
task_numbers x Unlock = numbers 9 x 0 0 0

unfoldable pub part_numbers : ℕ → ℕ → ℕ → Part → Numbers
part_numbers x b n (WriteNew i) = numbers 10 x b n i
part_numbers x b n (WriteEntry j) = numbers 11 x b n j
part_numbers x b n UnlockNew = numbers 12 x b n 0

unfoldable pub stage_numbers : Stage → Numbers
stage_numbers NotBegun = numbers 0 0 0 0 0
stage_numbers (ReadPage x) = numbers 1 x 0 0 0
stage_numbers (Reread x t) = numbers 2 x t 0 0
stage_numbers (Lock x) = numbers 3 x 0 0 0
stage_numbers (Held x t) = task_numbers x t
stage_numbers (Split x b n q) = part_numbers x b n q
stage_numbers Done = numbers 13 0 0 0 0

-- the row with these numbers
abbrev pub row_with : Numbers → ℕ → ℕ → ℕ → ℕ → ℕ → Row
row_with k used code charge told moment =
    record {
      charge = charge;
      used = used;
      moment = moment;
      base = k.base;
      stage = k.stage;
      code = code;
      page = k.page;
      told = told;
      count = k.count;
      next = k.next;
    }

-- "one fixed value, the same for every job, that stands for an operation not begun"
abbrev pub blank_row : Row
blank_row =
    record { charge = 0; used = 0; moment = 0; base = 0; stage = 0; code = 0; page = 0; told = 0; count = 0; next = 0 }

-- the row of numbers of an operation's row in the machine. The page told stands in it as the byte that the answer has
unfoldable pub row_image : State-Row → Row
row_image r = row_with (stage_numbers r.stage) r.used r.code r.charge (byte_of_page r.page) r.moment

-- the stage that a row's numbers give
unfoldable pub stage_in : Row → Stage
stage_in r =
    if (eqb r.stage 0) NotBegun
    (if (eqb r.stage 1) (ReadPage (r.page + 1))
    (if (eqb r.stage 2) (Reread (r.page + 1) r.base)
    (if (eqb r.stage 3) (Lock (r.page + 1))
    (if (eqb r.stage 4) (Held (r.page + 1) Verify)
    (if (eqb r.stage 5) (Held (r.page + 1) (Release r.base))
    (if (eqb r.stage 6) (Held (r.page + 1) Decide)
    (if (eqb r.stage 7) (Held (r.page + 1) WritePage)
    (if (eqb r.stage 8) (Held (r.page + 1) WriteOld)
    (if (eqb r.stage 9) (Held (r.page + 1) Unlock)
    (if (eqb r.stage 10) (Split (r.page + 1) r.base r.count (WriteNew r.next))
    (if (eqb r.stage 11) (Split (r.page + 1) r.base r.count (WriteEntry r.next))
    (if (eqb r.stage 12) (Split (r.page + 1) r.base r.count UnlockNew)
    Done))))))))))))

-- the row after a turn that leads to a stage; and with an answer
unfoldable pub moved : Row → Stage → Row
moved r st = row_with (stage_numbers st) (r.used + 1) r.code r.charge r.told r.moment

unfoldable pub answered : Row → ℕ → ℕ → ℕ → ℕ → Row
answered r code charge told moment =
    record {
      charge = charge;
      used = r.used;
      moment = moment;
      base = r.base;
      stage = r.stage;
      code = code;
      page = r.page;
      told = byte_of_page told;
      count = r.count;
      next = r.next;
    }

-- the number of an answer's code
abbrev pub code_number : Code → ℕ
code_number Found = found
code_number NotFound = not_found
code_number Stored = stored
code_number AlreadyThere = already_there
code_number Deleted = deleted
code_number Absent = absent
code_number NoDepth = no_depth
code_number NoPage = no_page
code_number Differs = differs
