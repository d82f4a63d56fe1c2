-- What an operation's row of numbers tells is what its row in the machine tells.
use Rattle.std.specs.Prelude.{◌≡◌, refl, List, ℕ, ◌≤◌}
use Rattle.std.proofs.Math.Logic.{by_cases}
use Rattle.std.proofs.Common.{arith, eq-eqb, ne_eqb}
use Rattle.std.proofs.Math.Decide.{ℕ_discrete}
use Rattle.spec.specs.declared.Task.{Task}
use Rattle.spec.specs.declared.Task.TheVariants.{Verify, Release, Decide, WritePage, WriteOld, Unlock}
use Rattle.spec.specs.declared.Part.{Part}
use Rattle.spec.specs.declared.Part.TheVariants.{WriteNew, WriteEntry, UnlockNew}
use Rattle.spec.specs.declared.Stage.{Stage}
use Rattle.spec.specs.declared.Stage.TheVariants.{NotBegun, ReadPage, Reread, Lock, Held, Split, Done}
use Rattle.spec.specs.Basics.{if}
use Rattle.spec.specs.Job.{max_pages}
use Rattle.spec.specs.Code.{not_yet}
use Rattle.spec.specs.Split.{digit}
use Rattle.spec.specs.State.{Row as State-Row}
use Rattle.spec.specs.Result.{told_of, page_byte, answer_bytes, under_way}
use Rattle.turn.specs.declared.Row.{Row}
use Rattle.turn.specs.Rows.{byte_of_page, stage_numbers, task_numbers, part_numbers, row_image}
use Rattle.laws.specs.Tools.{if_case}
use Rattle.result.specs.Marks.{mark_of, mark_number, begun_number, row_bytes, with_answer, with_mark, Tells}

mark_image : (r : State-Row) (row : Row) → row_image r ≡ row → mark_number row.code row.moment ≡ mark_of r
unfolding mark_of row_image
mark_image r row e = rw (← e)

-- a row has no page before it has a code, and its page's number is at most that of the last page that a file can have
pub record PageKept (r : State-Row) : Type 0 where
  pub untold : r.code ≡ not_yet → r.page ≡ 0
  pub most : r.page ≤ max_pages

page_image : (r : State-Row) → PageKept r → byte_of_page r.page ≡ page_byte (told_of r)
unfolding byte_of_page page_byte told_of if
page_image r h =
    by_cases (ℕ_discrete r.code not_yet) (λ e. rw (eq-eqb r.code not_yet e, h.untold e))
    (λ n. rw (ne_eqb r.code not_yet n) (omega (arith, h.most)))

answer_image : (r : State-Row) (row : Row) → row_image r ≡ row → PageKept r → row_bytes row ≡ answer_bytes (told_of r)
unfolding row_image row_bytes answer_bytes told_of
answer_image r row e h = rw (← e, page_image r h)

-- every stage but the first and the last is under way
begun_task : (x : ℕ) (t : Task) → begun_number (task_numbers x t).stage ≡ 1
unfolding begun_number if task_numbers
begun_task x Verify = refl
begun_task x (Release y) = refl
begun_task x Decide = refl
begun_task x WritePage = refl
begun_task x WriteOld = refl
begun_task x Unlock = refl

begun_part : (x b n : ℕ) (q : Part) → begun_number (part_numbers x b n q).stage ≡ 1
unfolding begun_number if part_numbers
begun_part x b n (WriteNew i) = refl
begun_part x b n (WriteEntry j) = refl
begun_part x b n UnlockNew = refl

begun_stage : (st : Stage) → begun_number (stage_numbers st).stage ≡ digit (under_way st)
unfolding begun_number if stage_numbers digit under_way
begun_stage NotBegun = refl
begun_stage (ReadPage x) = refl
begun_stage (Reread x t) = refl
begun_stage (Lock x) = refl
begun_stage (Held x t) = begun_task x t
begun_stage (Split x b n q) = begun_part x b n q
begun_stage Done = refl

begun_image : (r : State-Row) (row : Row) → row_image r ≡ row → begun_number row.stage ≡ digit (under_way r.stage)
unfolding row_image
begun_image r row e = rw (← e) (begun_stage r.stage)

-- what telling a row of numbers does is what is to be told of the machine's row
pub tells
    : (r : State-Row) (row : Row) (i : ℕ) (s w : List ℕ)
    → row_image r ≡ row
    → PageKept r
    → Tells r i s (with_answer row i s) w (with_mark row i w) (begun_number row.stage)
unfolding with_answer with_mark
tells r row i s w e h =
    record { answer = rw (answer_image r row e h); mark = rw (mark_image r row e); under = begun_image r row e }

pub begun_small : (k : ℕ) → begun_number k ≤ 1
unfolding begun_number
begun_small k = if_case (λ (n : ℕ). n ≤ 1) (λ e. omega arith) (λ e. if_case (λ (n : ℕ). n ≤ 1) (λ f. omega arith) (λ f. omega arith))
