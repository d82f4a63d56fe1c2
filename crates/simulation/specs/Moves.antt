-- The kinds of move in memory: nothing shared changes; locks change; pages are taken; a page is written; an entry is written. Each updates the
-- memory as the machine's move updates file and locks.
use Rattle.std.specs.Prelude.{◌≡◌, refl, List, Bool, ◌&&◌, ℕ, suc, ◌+◌, ◌^◌, ◌≤◌, ◌<◌, length, eqb}
use Rattle.std.proofs.Common.{sym, ◌∙◌, true≢false, add-zero, arith, eqb-true, eq-eqb}
use Rattle.std.proofs.Math.Bool.{true}
use Rattle.spec.specs.declared.Op.{Op}
use Rattle.spec.specs.declared.Stage.{Stage}
use Rattle.spec.specs.Basics.{if}
use Rattle.spec.specs.File.{Page, File, page_at, entry_at}
use Rattle.spec.specs.Split.{digit}
use Rattle.spec.specs.State.{State, Answer, Move, go, go_lock, go_page, go_entry}
use Rattle.spec.specs.Run.{fill, table_after, directory_after, file_after, locks_after, row_after, row_of}
use Rattle.spec.specs.Check.{work_size}
use Rattle.laws.specs.Tools.{if_case, and_left, and_right}
use Rattle.laws.specs.Turns.Slots.{Table}
use Rattle.laws.specs.Turns.Good.{Good}
use Rattle.memory.specs.Memory.{with_entry, with_locks, with_used, turn_in, with_turn, with_page}
use Rattle.memory.specs.Written.{turn_same, turn_other}
use Rattle.turn.specs.declared.Row.{Row}
use Rattle.turn.specs.Rows.{row_image, moved}
use Rattle.turn.specs.Steps.{Out, out}
use Rattle.simulation.specs.Shown.{Picture}
use Rattle.simulation.specs.RowBack.{told, row_moves}
use Rattle.simulation.specs.Picture.{with_use, entry_256, picture_entry, picture_turn, picture_locks, picture_used, picture_page, entry-turns, locks-turns, used-turns, page-turns}

-- what a turn leaves in memory is what the move of operation i leaves; `slot` is the table of turns then
pub record Turned (s : State) (i : ℕ) (slot : Table) (m : Move) (o : Out) : Type 0 where
  pub picture : Picture (file_after m s.file) (locks_after m s.locks) o.work
  pub turns : (e d : ℕ) → e < 256 → d < 8 → turn_in o.work e d ≡ slot e d
  pub row : o.row ≡ row_image (row_after m (row_of s i))

-- the table with one turn written
unfoldable pub slot_with : Table → ℕ → ℕ → ℕ → Table
slot_with slot j d t e q = if (eqb e j && eqb q d) t (slot e q)

written-turn
    : (w : List ℕ) (j d t : ℕ)
    → work_size ≤ length w
    → j < 256
    → d < 8
    → t < 65536
    → (e q : ℕ)
    → e < 256
    → q < 8
    → turn_in (with_turn w j d t) e q ≡ slot_with (turn_in w) j d t e q
unfolding slot_with
written-turn w j d t s lj ld lt e q le lq =
    if_case (λ v. turn_in (with_turn w j d t) e q ≡ v)
    (λ b. rw (eqb-true e j (and_left (eqb e j) (eqb q d) b), eqb-true q d (and_right (eqb e j) (eqb q d) b)) (turn_same w j d t s lj ld lt))
    (λ b. turn_other w j d t e q ld lq (λ z.
    let y : (eqb e j && eqb q d) ≡ true = rw (eq-eqb e j z.0) (eq-eqb q d z.1) in
    true≢false (sym y ∙ b)))

-- no page is taken
no_more : {f : File} {l : List Bool} {w : List ℕ} → Picture f l w → Picture (with_use f (f.used + 0)) l w
unfolding entry_at page_at
no_more {f = f} p =
    record { long = p.long; entries = p.entries; locks = p.locks; used = p.used ∙ sym (add-zero f.used); pages = p.pages }

module _ (ops : List Op) (s : State) (i : ℕ) (w : List ℕ) (good : Good ops s) (h : Picture s.file s.locks w) where
  abbrev r : Row
  r = row_image (row_of s i)

  pub calm : (to : Stage) (a : Answer) → Turned s i (turn_in w) (go to a) (out (told (moved r to) a) w)
  unfolding fill directory_after table_after
  calm to a = record { picture = no_more h; turns = λ e d k l. refl; row = row_moves (go to a) (row_of s i) }

  pub locked
      : (to : Stage) (a n : ℕ) (v : Bool)
      → a + n ≤ suc s.file.limit
      → Turned s i (turn_in w) (go_lock to a n v 0) (out (moved r to) (with_locks w a n (digit v)))
  unfolding directory_after table_after told
  locked to a n v l =
      record {
        picture = no_more (picture_locks s.file s.locks w good.fit h a n v l good.size);
        turns = locks-turns w a n (digit v) (omega (arith, good.fit.most));
        row = row_moves (go_lock to a n v 0) (row_of s i);
      }

  pub taken
      : (to : Stage) (a n : ℕ)
      → a + n ≤ suc s.file.limit
      → s.file.used + n ≤ s.file.limit
      → Turned s i (turn_in w) (go_lock to a n true n) (out (moved r to) (with_used (with_locks w a n 1) (s.file.used + n)))
  unfolding directory_after table_after told digit
  taken to a n l u =
      let p = picture_locks s.file s.locks w good.fit h a n true l good.size in
      record {
        picture = picture_used s.file _ _ good.fit p (s.file.used + n) (omega (arith, good.fit.most));
        turns = λ e d k m. used-turns _ (s.file.used + n) e d k m ∙ locks-turns w a n 1 (omega (arith, good.fit.most)) e d k m;
        row = row_moves (go_lock to a n true n) (row_of s i);
      }

  pub paged
      : (to : Stage) (a : Answer) (x : ℕ) (p : Page)
      → x ≤ s.file.limit
      → length p.records ≤ s.file.c
      → Turned s i (turn_in w) (go_page to a x p) (out (told (moved r to) a) (with_page s.file.c w x p))
  unfolding fill directory_after table_after
  paged to a x p l k =
      record {
        picture = no_more (picture_page s.file s.locks w good.fit h x p l k);
        turns = page-turns w s.file.c x p k;
        row = row_moves (go_page to a x p) (row_of s i);
      }

  pub entered
      : (to : Stage) (a : Answer) (j v d : ℕ)
      → j < 2 ^ s.file.g
      → v < 65536
      → d < 8
      → s.now < 65536
      → Turned s i (slot_with (turn_in w) j d s.now) (go_entry to a j v) (out (told (moved r to) a) (with_entry (with_turn w j d s.now) j v))
  unfolding fill directory_after table_after
  entered to a j v d lj lv ld lt =
      let k = entry_256 s.file good.fit j lj in
      let p = picture_turn s.file s.locks w good.fit h j d s.now lj ld in
      record {
        picture = no_more (picture_entry s.file s.locks _ good.fit p j v lj lv);
        turns = λ e q le lq. entry-turns _ j v k e q le lq ∙ written-turn w j d s.now h.long k ld lt e q le lq;
        row = row_moves (go_entry to a j v) (row_of s i);
      }
