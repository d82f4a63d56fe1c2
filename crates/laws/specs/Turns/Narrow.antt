-- What holds of every record of the file and of every operation's record holds of every record after any turns, and of every charge that is
-- answered; so numbers stay as small as they came in.
use Prim.Native.Nat.{ℕ, zero, suc, ◌-◌}
use Rattle.std.specs.Prelude.{◌≡◌, List, ◌∷◌, Bool, not, length, get_or, Option, None, Some}
use Rattle.std.proofs.Math.Path.{refl}
use Rattle.spec.specs.declared.Rec.{Rec}
use Rattle.spec.specs.declared.Op.{Op}
use Rattle.spec.specs.declared.Kind.{Kind}
use Rattle.spec.specs.declared.Kind.TheVariants.{Search, Insert, Delete}
use Rattle.spec.specs.declared.Task.{Task}
use Rattle.spec.specs.declared.Task.TheVariants.{Verify, Release, Decide, WritePage, WriteOld, Unlock}
use Rattle.spec.specs.declared.Part.{Part}
use Rattle.spec.specs.declared.Part.TheVariants.{WriteNew, WriteEntry, UnlockNew}
use Rattle.spec.specs.declared.Stage.{Stage}
use Rattle.spec.specs.declared.Stage.TheVariants.{NotBegun, ReadPage, Reread, Lock, Held, Split, Done}
use Rattle.spec.specs.Basics.{if, Each, end, next}
use Rattle.spec.specs.Key.{bit}
use Rattle.spec.specs.File.{Page, File, zero_page, page_at, find_in, without, found_of}
use Rattle.spec.specs.Job.{Job, no_op}
use Rattle.spec.specs.Split.{with_bit, half, added, Grown, grow}
use Rattle.spec.specs.Code.{stored}
use Rattle.spec.specs.State.{Row, State, Answer, same, answer, PageWrite, Move, gone, go}
use Rattle.spec.specs.Turn.{rec_of, plan_of, begin, looked, looked_at, reread, struck, cleared, written, verified, old_written, held_turn, split_turn, turn}
use Rattle.spec.specs.Run.{table_after, charge_after, row_after, row_of, stage_of, tick, act, step, start, run}
use Rattle.laws.specs.Tools.{if_case, first, rest, each_or, set_all, filter_each}
use Rattle.laws.specs.Turns.Records.{find_each}
use Rattle.laws.specs.Turns.CallsRise.{put_each}
use Rattle.laws.specs.Turns.Grow.{joined_each}
use Rattle.laws.specs.Turns.Rows.{still, step_case, steps_keep, first_row_lem}
use Rattle.laws.specs.Turns.Decision.{Decision, searching, refused_missing, refused_there, to_store, to_strike, to_split, decision}

module _ (P : Rec → Type 0) where
  abbrev EachOf : Page → Type 0
  EachOf q = Each P q.records

  -- every page that an insert leaves has such records
  grow_all
      : (c n : ℕ) (p : Page) (r : Rec)
      → Each P p.records
      → P r
      → Each EachOf ((grow c n p r).old ∷ (grow c n p r).news)
  unfolding grow half added with_bit
  grow_all c zero p r h w = next h end
  grow_all c (suc n) p r h w =
      let v = bit p.depth r.call in
      let part : (v : Bool) → Each P (with_bit v p.depth p.records) = λ v. filter_each _ p.records (λ a i u. i) h in
      if_case (λ (t : Grown). Each EachOf (t.old ∷ t.news)) (λ e. next (put_each p.records r h w) end)
      (λ e. joined_each v _ _ (part (not v)) (grow_all c n (half v p) r (part v) w))

  abbrev pub EveryRecord : File → Type 0
  EveryRecord f = (x : ℕ) → Each P (page_at f x).records

  abbrev PageAll : Option PageWrite → Type 0
  PageAll None = Unit {0}
  PageAll (Some w) = Each P w.page.records

  -- C holds of 0, and of the charges of such records
  module _ (C : ℕ → Type 0) (none-charge : C 0) (of_rec : (r : Rec) → P r → C r.charge) where
    abbrev Charged : Answer → Type 0
    Charged same = Unit {0}
    Charged (answer k c x t) = C c

    -- what a move must be: the page that it writes and the charge that it answers are such
    record M (m : Move) : Type 0 where
      page : PageAll m.page
      charge : Charged m.answer

    -- a move that writes no page
    calm : {st : Stage} {a : Answer} {x n t : ℕ} {v : Bool} → Charged a → M (still st a x n v t)
    calm c = record { page = tt; charge = c }

    module _ (s : State) (op : Op) (all : EveryRecord s.file) (own : P (rec_of op)) where
      begin_all : (k : Kind) (x : ℕ) → M (go (begin k x) same)
      unfolding begin
      begin_all Search x = calm tt
      begin_all Insert x = calm tt
      begin_all Delete x = calm tt

      looked_all : (x : ℕ) (o : Option Rec) → find_in (page_at s.file x).records op.call ≡ o → M (looked s op (found_of x o))
      unfolding looked_at
      looked_all x None e = calm tt
      looked_all x (Some r) e = calm (of_rec r (find_each _ op.call r (all x) e))

      decided_all : {x : ℕ} {o : Option Rec} {m : Move} → find_in (page_at s.file x).records op.call ≡ o → Decision s op x o m → M m
      decided_all e (searching k) = calm tt
      decided_all e (refused_missing l y) = calm none-charge
      decided_all {x} e (refused_there {r} l y) = calm (of_rec r (find_each _ op.call r (all x) e))
      decided_all e (to_store i l) = calm tt
      decided_all e (to_strike k t) = calm tt
      decided_all e (to_split i l d u) = calm tt

      struck_all : (x : ℕ) (o : Option Rec) → find_in (page_at s.file x).records op.call ≡ o → Charged (struck s.now (found_of x o))
      struck_all x None e = none-charge
      struck_all x (Some r) e = of_rec r (find_each _ op.call r (all x) e)

      written_all : (x : ℕ) (k : Kind) → M (written s op x k (page_at s.file x))
      unfolding written added cleared without
      written_all x Search = calm tt
      written_all x Insert = record { page = put_each _ _ (all x) own; charge = of_rec (rec_of op) own }
      written_all x Delete = record { page = filter_each _ _ (λ a i u. i) (all x); charge = struck_all x _ refl }

      stored_all : (t : Bool) (x : ℕ) → Charged (if t (answer stored op.charge x s.now) same)
      stored_all t x = if_case Charged (λ e. of_rec (rec_of op) own) (λ e. tt)

      plan_all : (x : ℕ) → Each EachOf ((plan_of s.file op x).old ∷ (plan_of s.file op x).news)
      unfolding plan_of
      plan_all x = grow_all s.file.c _ (page_at s.file x) (rec_of op) (all x) own

      held_all : (x : ℕ) (t : Task) → M (held_turn s op x t)
      unfolding held_turn verified old_written
      held_all x Verify = if_case M (λ e. calm tt) (λ e. calm tt)
      held_all x (Release y) = calm tt
      held_all x Decide = decided_all refl (decision s op x _)
      held_all x WritePage = written_all x _
      held_all x WriteOld = record { page = first (plan_all x); charge = stored_all _ _ }
      held_all x Unlock = calm tt

      split_all : (x b n : ℕ) (q : Part) → M (split_turn s op x b n q)
      unfolding split_turn
      split_all x b n (WriteNew i) = record { page = each_or _ (i - 1) zero_page end (rest (plan_all x)); charge = tt }
      split_all x b n (WriteEntry j) = record { page = tt; charge = stored_all _ _ }
      split_all x b n UnlockNew = calm tt

      turn_all : (st : Stage) → M (turn s op st)
      unfolding turn reread
      turn_all NotBegun = begin_all _ _
      turn_all (ReadPage x) = looked_all x _ refl
      turn_all (Reread x t) = if_case M (λ e. calm none-charge) (λ e. calm tt)
      turn_all (Lock x) = calm tt
      turn_all (Held x t) = held_all x t
      turn_all (Split x b n q) = split_all x b n q
      turn_all Done = calm tt

    -- every record of the file, and every charge that was answered
    pub record Every (s : State) : Type 0 where
      pub records : EveryRecord s.file
      pub charges : (i : ℕ) → C (row_of s i).charge

    pages-after
        : (t : List Page) (w : Option PageWrite)
        → PageAll w
        → ((x : ℕ) → Each P (get_or t x zero_page).records)
        → (x : ℕ)
        → Each P (get_or (table_after w t) x zero_page).records
    unfolding table_after
    pages-after t None h a x = a x
    pages-after t (Some w) h a x = set_all EachOf t w.number w.page zero_page h a x

    charge-after : (z : Answer) (r : Row) → Charged z → C r.charge → C (charge_after z r)
    unfolding charge_after
    charge-after same r h c = c
    charge-after (answer k a x t) r h c = h

    act_every : (s : State) (i : ℕ) (m : Move) → M m → Every s → Every (act s i m)
    unfolding row_of page_at
    act_every s i m h e =
        record {
          records = pages-after s.file.table m.page h.page e.records;
          charges =
              set_all (λ (r : Row). C r.charge) s.rows i (row_after m (row_of s i)) gone
              (charge-after m.answer (row_of s i) h.charge (e.charges i)) e.charges;
        }

    tick_every : (s : State) → Every s → Every (tick s)
    unfolding row_of
    tick_every s e = record { records = e.records; charges = e.charges }

    module _ (ops : List Op) (own : (i : ℕ) → P (rec_of (get_or ops i no_op))) where
      step_every : (s : State) (i : ℕ) → Every s → Every (step ops s i)
      step_every s i e =
          step_case Every ops s i (tick_every s e) (λ lt u. act_every s i _ (turn_all s (get_or ops i no_op) e.records (own i) (stage_of s i)) e)

    start_every : (f : File) (m : ℕ) → EveryRecord f → Every (start f m)
    unfolding start row_of
    start_every f m h = record { records = h; charges = λ i. first_row_lem (λ r. C r.charge) none-charge none-charge m i }

    pub run_every : (j : Job) → EveryRecord j.file → ((i : ℕ) → P (rec_of (get_or j.ops i no_op))) → Every (run j)
    unfolding run
    run_every j h own = steps_keep Every j.ops (step_every j.ops own) _ j.turns (start_every j.file (length j.ops) h)
