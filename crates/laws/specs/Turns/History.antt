-- The history of a run: every answer is right for what the file held at its moment, and its moment is not before the operation's first turn.
use Rattle.std.specs.Prelude.{ℕ, suc, ◌+◌, ◌<◌, ◌≤◌, ◌≡◌, refl, ◌⊎◌, List, length, get_or, Option}
use Rattle.std.proofs.Common.{sym, ◌∙◌, inl, inr, ⊎_elim, arith, eqb-true}
use Rattle.std.proofs.Math.Path.{ap}
use Rattle.std.proofs.lemmas.Bool.{eqb-false}
use Rattle.spec.specs.declared.Rec.{Rec}
use Rattle.spec.specs.declared.Op.{Op}
use Rattle.spec.specs.declared.Stage.{Stage}
use Rattle.spec.specs.declared.Stage.TheVariants.{NotBegun, ReadPage, Reread, Lock, Held, Split, Done}
use Rattle.spec.specs.File.{File, entry_at}
use Rattle.spec.specs.Job.{no_op}
use Rattle.spec.specs.Code.{not_yet, found}
use Rattle.spec.specs.State.{Row, State, Answer, same, answer, Move, go}
use Rattle.spec.specs.Turn.{home_of, entry_of, found_moment}
use Rattle.spec.specs.Run.{file_after, code_after, charge_after, moment_after, row_after, row_of, stage_of, tick, act, step, start}
use Rattle.laws.specs.Tools.{if_case}
use Rattle.laws.specs.Turns.Rows.{row-after, stage-after, step_case, first_row_lem}
use Rattle.laws.specs.Turns.Good.{Fine, Good}
use Rattle.laws.specs.Turns.Lookup.{lookup, lookup_at}
use Rattle.laws.specs.Turns.Says.{Says, is_found, is_none, Changes}
use Rattle.laws.specs.Turns.Does.{Own, quiet, sees, sees_none, says, Coherent, Unreached, fresh, Starts, Does}
use Rattle.laws.specs.Turns.Coherent.{i_does}
use Rattle.laws.specs.Turns.Reads.{Reads, Reading, reading, rereading, unreached_entry, reads-after, own_reads}

-- an answer that a turn gives fits the history H: it is right at its moment t; if it changes what is held, its moment is now
abbrev Fits : (ℕ → ℕ → Option Rec) → ℕ → ℕ → Op → ℕ → ℕ → ℕ → Type 0
Fits H lo now op k c t = Says op (H t op.call) (H (suc t) op.call) k c × (t < now + 1) × (Changes k → t ≡ now) × (lo ≤ t)

abbrev FitsAnswer : (ℕ → ℕ → Option Rec) → ℕ → ℕ → Op → Answer → Type 0
FitsAnswer H lo now op same = Unit {0}
FitsAnswer H lo now op (answer k c x t) = Fits H lo now op k c t

own_fits
    : (H : ℕ → ℕ → Option Rec) (lo : ℕ) (s : State) (m : Move) (op : Op) (st : Stage) (a : Answer) {y : ℕ}
    → ((k : ℕ) → H s.now k ≡ lookup s.file k)
    → ((k : ℕ) → H (suc s.now) k ≡ lookup (file_after m s.file) k)
    → Reads H lo s op st
    → Own s st op (lookup s.file op.call) (lookup (file_after m s.file) op.call) y a
    → lo ≤ s.now
    → FitsAnswer H lo s.now op a
unfolding found_moment entry_of home_of
own_fits H lo s m op st a before after h (quiet e) b = tt
own_fits H lo s m op st a before after h (sees x r k z u e) b =
    let h' : Reads H lo s op (ReadPage x) = rw z at h in
    if_case (Fits H lo s.now op found r.charge)
    (λ q.
    (is_found r k (before _ ∙ lookup_at s.file op.call x (eqb-true _ _ q) ∙ u) (after _ ∙ e ∙ sym (before _)), omega arith, λ w. refl, b))
    (λ q.
    let c = h'.1 r u (eqb-false _ _ q) in
    (is_found r k c.1 (c.2 ∙ sym c.1), omega (arith, c.0), ⊎_elim (λ w. absurd (omega arith)) (λ w. absurd (omega arith)), c.3))
own_fits H lo s m op st a before after h (sees_none x t k z u e) b =
    let h' : Reads H lo s op (Reread x t) = rw z at h in
    let c = h'.2 u in
    (is_none k c.0 (c.1 ∙ sym c.0), omega (arith, h'.1), ⊎_elim (λ w. absurd (omega arith)) (λ w. absurd (omega arith)), h'.3)
own_fits H lo s m op st a before after h (says n u w y) b = (rw (before op.call, after op.call) y, omega arith, λ w. refl, b)

-- a row's answer is right, and if it changes what is held, the turn of its moment, as W names them, was the operation's
abbrev pub RowRight : (ℕ → ℕ → Option Rec) → (ℕ → ℕ) → ℕ → ℕ → Op → ℕ → Row → Type 0
RowRight H W lo i op now r =
    Says op (H r.moment op.call) (H (suc r.moment) op.call) r.code r.charge
    × (r.moment < now)
    × (Changes r.code → W r.moment ≡ i)
    × (lo ≤ r.moment)

-- (F i: the first turn of operation i)
pub record Past (H : ℕ → ℕ → Option Rec) (W F : ℕ → ℕ) (ops : List Op) (s : State) : Type 0 where
  pub reads : (i : ℕ) → Reads H (F i) s (get_or ops i no_op) (stage_of s i)
  pub unread : (i j p : ℕ) → Reading (stage_of s i) p → Unreached (stage_of s j) p → ⊥
  pub right : (i : ℕ) → ((row_of s i).code ≡ not_yet → ⊥) → RowRight H W (F i) i (get_or ops i no_op) s.now (row_of s i)

-- a page that is read is in use, and no operation reads one that it splits
reading_no : (f : File) (op : Op) {st : Stage} {p : ℕ} → Fine f op st → Reading st p → p ≤ f.used
reading_no f op h reading = h.1
reading_no f op h rereading = h.1

not_both : {st : Stage} {p : ℕ} → Reading st p → Unreached st p → ⊥
not_both reading u = elim u [ ]
not_both rereading u = elim u [ ]

-- a new reader reads a page that its entry names, or that it was to read
pub new_reader
    : (s : State) (op : Op) (st : Stage) {to : Stage} {p : ℕ}
    → Starts s op st to
    → Reading to p
    → (entry_at s.file (home_of s.file op) ≡ p) ⊎ Reading st p
new_reader s op st z reading = inl z
new_reader s op st z rereading = inr (rw z.0 reading)

-- new pages that no entry names are above those in use, or were such before
pub new_pages
    : (s : State) (op : Op) (st : Stage) {to : Stage} {p : ℕ}
    → Starts s op st to
    → Unreached to p
    → Unreached st p ⊎ (s.file.used < p)
new_pages s op st z (fresh sp) = z _ sp

module _ (H : ℕ → ℕ → Option Rec) (W F : ℕ → ℕ) (ops : List Op) (s : State) (i : ℕ) where
  module _ (m : Move)
      (before : (k : ℕ) → H s.now k ≡ lookup s.file k)
      (after : (k : ℕ) → H (suc s.now) k ≡ lookup (file_after m s.file) k)
      (d : Does s (get_or ops i no_op) (stage_of s i) m)
      (mine : W s.now ≡ i)
      (begun : F i ≤ s.now)
      (lt : i < length s.rows)
      (good : Good ops s)
      (coherent : Coherent ops s)
      (past : Past H W F ops s)
    where
      own_right
          : (a : Answer)
          → FitsAnswer H (F i) s.now (get_or ops i no_op) a
          → (code_after a (row_of s i) ≡ not_yet → ⊥)
          → RowRight H W (F i) i (get_or ops i no_op) (s.now + 1) (row_after (go Done a) (row_of s i))
      unfolding code_after charge_after moment_after
      own_right same h n = let c = past.right i n in (c.0, omega (arith, c.1), c.2, c.3)
      own_right (answer k c x t) h n = (h.0, h.1, λ w. ap W (h.2 w) ∙ mine, h.3)

      -- one that comes to read a page, and one that comes to split into it
      unread_after : (a b p : ℕ) → Reading (stage_of (act s i m) a) p → Unreached (stage_of (act s i m) b) p → ⊥
      unread_after a b p =
          stage-after s i m lt (λ a st. Reading st p → Unreached (stage_of (act s i m) b) p → ⊥)
          (λ r.
          stage-after s i m lt (λ b st. Unreached st p → ⊥) (λ u. not_both r u)
          (λ b e u.
          ⊎_elim (λ q. unreached_entry s.file _ _ (coherent.work b) u q) (λ q. past.unread i b p q u)
          (new_reader s _ (stage_of s i) d.starts r))
          b)
          (λ a e r.
          stage-after s i m lt (λ b st. Unreached st p → ⊥)
          (λ u.
          ⊎_elim (λ q. past.unread a i p r q) (λ q. let l = reading_no s.file _ (good.fine a) r in omega arith)
          (new_pages s _ (stage_of s i) d.starts u))
          (λ b e' u. past.unread a b p r u)
          b)
          a

      act_past : Past H W F ops (act s i m)
      act_past =
          record {
            reads =
                stage-after s i m lt (λ j st. Reads H (F j) (act s i m) (get_or ops j no_op) st)
                (own_reads H ops s i m before after d (F i) m.stage coherent (past.reads i) d.starts d.work begun)
                (λ j e. reads-after H ops s i m before after d (F j) _ (stage_of s j) (λ p. past.unread j i p) (past.reads j));
            unread = unread_after;
            right =
                row-after s i m lt (λ j r. (r.code ≡ not_yet → ⊥) → RowRight H W (F j) j (get_or ops j no_op) (s.now + 1) r)
                (own_right m.answer (own_fits H (F i) s m _ (stage_of s i) m.answer before after (past.reads i) d.own begun))
                (λ j e n. let c = past.right j n in (c.0, omega (arith, c.1), c.2, c.3));
          }

  -- a turn that goes by
  reads-tick : (lo : ℕ) (op : Op) (st : Stage) → Reads H lo s op st → Reads H lo (tick s) op st
  reads-tick lo op NotBegun h = tt
  reads-tick lo op (ReadPage x) h = (h.0, λ r e n. let c = h.1 r e n in (omega (arith, c.0), c.1, c.2, c.3), omega (arith, h.2))
  reads-tick lo op (Reread x t) h = (h.0, omega (arith, h.1), h.2, h.3)
  reads-tick lo op (Lock x) h = tt
  reads-tick lo op (Held x t) h = tt
  reads-tick lo op (Split x b n q) h = tt
  reads-tick lo op Done h = tt

  tick_past : Past H W F ops s → Past H W F ops (tick s)
  unfolding stage_of row_of
  tick_past p =
      record {
        reads = λ j. reads-tick (F j) _ (stage_of s j) (p.reads j);
        unread = p.unread;
        right = λ j n. let c = p.right j n in (c.0, omega (arith, c.1), c.2, c.3);
      }

  pub step_past
      : ((k : ℕ) → H s.now k ≡ lookup s.file k)
      → ((k : ℕ) → H (suc s.now) k ≡ lookup (step ops s i).file k)
      → W s.now ≡ i
      → F i ≤ s.now
      → Good ops s
      → Coherent ops s
      → Past H W F ops s
      → Past H W F ops (step ops s i)
  step_past before after mine begun good coherent past =
      step_case (λ t. ((k : ℕ) → H (suc s.now) k ≡ lookup t.file k) → Past H W F ops t) ops s i (λ a. tick_past past)
      (λ lt e a. act_past _ before a (i_does ops s i good coherent) mine begun lt good coherent past)
      after

pub start-past : (H : ℕ → ℕ → Option Rec) (W F : ℕ → ℕ) (ops : List Op) (f : File) (m : ℕ) → Past H W F ops (start f m)
unfolding start stage_of row_of
start-past H W F ops f m =
    record {
      reads = λ j. first_row_lem (λ r. Reads H (F j) (start f m) (get_or ops j no_op) r.stage) tt tt m j;
      unread = λ j k p r. absurd (first_row_lem (λ r. Reading r.stage p → ⊥) (λ h. elim h [ ]) (λ h. elim h [ ]) m j r);
      right = λ j n. absurd (n (first_row_lem (λ r. r.code ≡ not_yet) refl refl m j));
    }
