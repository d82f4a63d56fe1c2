-- The claim on the pages that are told with the answers weighed, as Weighed does for the others: each field of `PagesTold` as a test that computes,
-- and the jobs there, on which every test passes.
-- For each field there is a changed definition under which its test fails (tests/edits), and a wrong result on which it does (WrongPages).
-- That a test that fails refutes the claim is proved in RefutesPages.
use Rattle.std.specs.Prelude.{ℕ, suc, refl, Bool, true, false, not, ◌&&◌, ◌||◌, length, get_or, ltb, eqb, Option, None, Some}
use Rattle.spec.specs.declared.Rec.{Rec}
use Rattle.spec.specs.declared.Task.{Task}
use Rattle.spec.specs.declared.Task.TheVariants.{Verify, Release, Decide, WritePage, WriteOld, Unlock}
use Rattle.spec.specs.declared.Stage.{Stage}
use Rattle.spec.specs.declared.Stage.TheVariants.{NotBegun, ReadPage, Reread, Lock, Held, Split, Done}
use Rattle.spec.specs.Basics.{when}
use Rattle.spec.specs.Code.{not_yet, found, not_found, stored}
use Rattle.spec.specs.File.{File}
use Rattle.spec.specs.Job.{Job, no_op}
use Rattle.spec.specs.Turn.{entry_of, rec_of}
use Rattle.spec.specs.Run.{stage_of, run}
use Rattle.spec.specs.Result.{Result}
use Rattle.spec.specs.Claims.{state_at, line_at, answer_at, op_at, file_then, in_page, call_at, told_at, line_told}
use Rattle.spec.specs.Opened.{opened}
use Rattle.laws.specs.Weighed.{every, some_of, same_found, is_search, code_of, Passes, tested}

-- x is the number of a page in use
unfoldable pub is_page : File → ℕ → Bool
is_page f x = ltb 0 x && ltb x (suc f.used)

-- the page that a search at this stage reads on its next turn, and the page on which an operation at this stage decides
unfoldable pub page_read : Stage → Option ℕ
page_read NotBegun = None
page_read (ReadPage x) = Some x
page_read (Reread x t) = None
page_read (Lock x) = None
page_read (Held x t) = None
page_read (Split x b n q) = None
page_read Done = None

unfoldable pub is_decide : Task → Bool
is_decide Verify = false
is_decide (Release y) = false
is_decide Decide = true
is_decide WritePage = false
is_decide WriteOld = false
is_decide Unlock = false

unfoldable pub page_decided : Stage → Option ℕ
page_decided NotBegun = None
page_decided (ReadPage x) = None
page_decided (Reread x t) = None
page_decided (Lock x) = None
page_decided (Held x t) = when (is_decide t) x
page_decided (Split x b n q) = None
page_decided Done = None

-- turn t was operation i's, and f gave a page for its stage; and that was page x
unfoldable pub is_given : Option ℕ → Bool
is_given None = false
is_given (Some y) = true

unfoldable pub is_number : ℕ → Option ℕ → Bool
is_number x None = false
is_number x (Some y) = eqb y x

unfoldable pub at_some : (Stage → Option ℕ) → Job → ℕ → ℕ → Bool
at_some f j i t = eqb (get_or j.turns t 0) i && is_given (f (stage_of (state_at j t) i))

unfoldable pub at_page : (Stage → Option ℕ) → ℕ → Job → ℕ → ℕ → Bool
at_page f x j i t = eqb (get_or j.turns t 0) i && is_number x (f (stage_of (state_at j t) i))

-- on no turn behind turn t did operation i read a page
unfoldable pub none_behind : Job → ℕ → ℕ → Bool
none_behind j i t = every (length j.turns) (λ u. not (at_some page_read j i u) || ltb u (suc t))

-- operation i last read the page that is told for it, on turn t, and the page then had this of its call
unfoldable pub read_then : Job → Result → ℕ → Option Rec → ℕ → Bool
read_then j r i o t =
    at_page page_read (told_at r i) j i t && none_behind j i t && same_found (in_page (state_at j t).file (told_at r i) (call_at j i)) o

-- the call of operation i with the charge told
abbrev pub rec_told : Job → Result → ℕ → Rec
rec_told j r i = record { call = call_at j i; charge = (answer_at r i).charge }

-- The fields, in the claim's order, of a job and a result. Where there is no answer no page is told, so the answers that are there are all.
-- is no page told with code 0?
unfoldable pub untold : Job → Result → Bool
untold j r = every (length r.answers) (λ i. not (eqb (code_of r i) not_yet) || eqb (told_at r i) 0)

-- is a page in use told with every other code?
unfoldable pub in_use : Job → Result → Bool
in_use j r = every (length r.answers) (λ i. eqb (code_of r i) not_yet || is_page (run j).file (told_at r i))

-- did a found search last read the page told, and did that have the call with the charge told when it was read?
unfoldable pub finds : Job → Result → Bool
finds j r =
    every (length r.answers) (λ i. not (eqb (code_of r i) found) || some_of (length j.turns) (read_then j r i (Some (rec_told j r i))))

-- did a search that found none last read the page told, at its moment, and did that not have the call?
unfoldable pub lacks : Job → Result → Bool
lacks j r =
    every (length r.log)
    (λ p.
    not (eqb (code_of r (line_at r p).op) not_found)
    || (ltb (line_at r p).moment (length j.turns) && read_then j r (line_at r p).op None (line_at r p).moment))

-- does the page told for a stored insert have the call with its charge at its moment?
unfoldable pub holds : Job → Result → Bool
holds j r =
    every (length r.log)
    (λ p.
    not (eqb (code_of r (line_at r p).op) stored)
    || same_found (in_page (file_then j r p) (line_told r p) (op_at j r p).call) (Some (rec_of (op_at j r p))))

-- did every other insert or delete that has an answer decide on the page told?
unfoldable pub decides : Job → Result → Bool
decides j r =
    every (length r.answers)
    (λ i.
    is_search (get_or j.ops i no_op).kind
    || (eqb (code_of r i) not_yet || (eqb (code_of r i) stored || some_of (length j.turns) (at_page page_decided (told_at r i) j i))))

-- is the page told for an insert or a delete the one that the call's own entry names at its moment?
unfoldable pub names : Job → Result → Bool
names j r = every (length r.log) (λ p. is_search (op_at j r p).kind || eqb (entry_of (file_then j r p) (op_at j r p)) (line_told r p))

-- opens the tests' parts, for a proof by computation
unfoldable pub parts-opened : Unit {0}
unfolding file_then is_page page_read is_decide page_decided is_given is_number at_some at_page none_behind read_then
parts-opened = tt

untold_passes : Passes untold
unfolding opened tested parts-opened untold
untold_passes = refl

in_use_passes : Passes in_use
unfolding opened tested parts-opened in_use
in_use_passes = refl

finds_passes : Passes finds
unfolding opened tested parts-opened finds
finds_passes = refl

lacks_passes : Passes lacks
unfolding opened tested parts-opened lacks
lacks_passes = refl

holds_passes : Passes holds
unfolding opened tested parts-opened holds
holds_passes = refl

decides_passes : Passes decides
unfolding opened tested parts-opened decides
decides_passes = refl

names_passes : Passes names
unfolding opened tested parts-opened names
names_passes = refl
