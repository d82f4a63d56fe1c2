-- A row's numbers tell the stage that they were made of, where these are in range; a row of zeros is an operation not begun; and what a turn
-- makes of a row of numbers is what the machine makes of the row.
use Rattle.std.specs.Prelude.{◌≡◌, ℕ, ◌+◌, ◌<◌}
use Rattle.std.proofs.Math.Path.{refl}
use Rattle.std.proofs.Common.{arith, mod-eq_of_lt}
use Rattle.spec.specs.declared.Task.TheVariants.{Verify, Release, Decide, WritePage, WriteOld, Unlock}
use Rattle.spec.specs.declared.Part.TheVariants.{WriteNew, WriteEntry, UnlockNew}
use Rattle.spec.specs.declared.Stage.{Stage}
use Rattle.spec.specs.declared.Stage.TheVariants.{NotBegun, ReadPage, Reread, Lock, Held, Split, Done}
use Rattle.spec.specs.Basics.{if}
use Rattle.spec.specs.State.{Answer, same, answer, Move, blank}
use Rattle.spec.specs.State.{Row as State-Row}
use Rattle.spec.specs.Run.{code_after, charge_after, page_after, moment_after, row_after}
use Rattle.laws.specs.Turns.Fields.{PageField, StageFields}
use Rattle.turn.specs.declared.Row.{Row}
use Rattle.turn.specs.Rows.{byte_of_page, task_numbers, part_numbers, stage_numbers, row_with, blank_row, row_image, stage_in, moved, answered}

-- a page number comes back from its byte: pages count from 1 to 256
page_back : (x : ℕ) → PageField x → byte_of_page x + 1 ≡ x
unfolding byte_of_page
page_back x h = omega arith

-- where its numbers are those of a stage before turn t, the row has that stage: what a split counts is below 256, and no byte loses anything
numbers_back : (t : ℕ) (st : Stage) (u k c p m : ℕ) → StageFields t st → stage_in (row_with (stage_numbers st) u k c p m) ≡ st
unfolding stage_in stage_numbers task_numbers part_numbers if
numbers_back t NotBegun u k c p m h = refl
numbers_back t (ReadPage x) u k c p m h = rw (page_back x h)
numbers_back t (Reread x v) u k c p m h = rw (page_back x h.0)
numbers_back t (Lock x) u k c p m h = rw (page_back x h)
numbers_back t (Held x Verify) u k c p m h = rw (page_back x h.0)
numbers_back t (Held x (Release y)) u k c p m h = rw (page_back x h.0)
numbers_back t (Held x Decide) u k c p m h = rw (page_back x h.0)
numbers_back t (Held x WritePage) u k c p m h = rw (page_back x h.0)
numbers_back t (Held x WriteOld) u k c p m h = rw (page_back x h.0)
numbers_back t (Held x Unlock) u k c p m h = rw (page_back x h.0)
numbers_back t (Split x b n (WriteNew i)) u k c p m h =
    let count : n < 256 = omega arith in
    let next : i < 256 = omega arith in
    rw (page_back x h.0, mod-eq_of_lt count, mod-eq_of_lt next)
numbers_back t (Split x b n (WriteEntry j)) u k c p m h =
    let count : n < 256 = omega arith in
    let next : j < 256 = omega arith in
    rw (page_back x h.0, mod-eq_of_lt count, mod-eq_of_lt next)
numbers_back t (Split x b n UnlockNew) u k c p m h = let count : n < 256 = omega arith in rw (page_back x h.0, mod-eq_of_lt count)
numbers_back t Done u k c p m h = refl

pub stage_back : (t : ℕ) (r : State-Row) → StageFields t r.stage → stage_in (row_image r) ≡ r.stage
unfolding row_image
stage_back t r h = numbers_back t r.stage r.used r.code r.charge (byte_of_page r.page) r.moment h

-- a row of zeros stands for an operation not begun
pub blank-row : row_image blank ≡ blank_row
unfolding row_image stage_numbers byte_of_page
blank-row = refl

-- a row that a turn moves on to a stage, with what the turn answers
unfoldable pub told : Row → Answer → Row
told r same = r
told r (answer k c x t) = answered r k c x t

pub row_moves : (m : Move) (r : State-Row) → told (moved (row_image r) m.stage) m.answer ≡ row_image (row_after m r)
row_moves m r = by m.stage m.answer
  where
    by
        : (st : Stage) (a : Answer)
        → told (moved (row_image r) st) a
        ≡ row_image
        (record { stage = st; used = (row_after m r).used; code = code_after a r; charge = charge_after a r; page = page_after a r; moment = moment_after a r })
    by st same = unfold told moved row_image code_after charge_after page_after moment_after in refl
    by st (answer k c x t) = unfold told moved answered row_image code_after charge_after page_after moment_after in refl
