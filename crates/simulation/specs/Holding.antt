-- The turns of an insert or a delete that locks a page or holds one, in memory as in the machine; all but those of a split.
use Rattle.std.specs.Prelude.{◌≡◌, List, ℕ, suc, ◌+◌, length, get_or, ltb, Option, None, Some}
use Rattle.std.proofs.Math.Path.{refl, ap}
use Rattle.std.proofs.Common.{◌∙◌, arith}
use Rattle.std.proofs.Math.Bool.{true, false}
use Rattle.std.proofs.Math.Numerals.{add-one}
use borrow.Author.Tests.{ltb-false}
use Rattle.spec.specs.declared.Rec.{Rec}
use Rattle.spec.specs.declared.Op.{Op}
use Rattle.spec.specs.declared.Kind.{Kind}
use Rattle.spec.specs.declared.Kind.TheVariants.{Search, Insert, Delete}
use Rattle.spec.specs.declared.Task.{Task}
use Rattle.spec.specs.declared.Task.TheVariants.{Verify, Release, Decide, WritePage, WriteOld, Unlock}
use Rattle.spec.specs.declared.Stage.{Stage}
use Rattle.spec.specs.declared.Stage.TheVariants.{Lock, Held, Done}
use Rattle.spec.specs.Basics.{if}
use Rattle.spec.specs.Code.{already_there, absent, no_depth, no_page, differs}
use Rattle.spec.specs.File.{Page, page_at, entry_at, is_not, without, found_of}
use Rattle.spec.specs.Job.{no_op}
use Rattle.spec.specs.Split.{digit, added, all_share, split_count}
use Rattle.spec.specs.State.{State, Move, go_lock}
use Rattle.spec.specs.Turn.{home_of, rec_of, plan_of, new_count, cleared, placed, decided, decided_at, struck, written, verified, held_turn, turn}
use Rattle.spec.specs.Run.{row_of}
use Rattle.spec.specs.Proper.{PageNo, In}
use Rattle.laws.specs.Tools.{if_both, if_ap, filter-le}
use Rattle.laws.specs.Turns.CallsRise.{put_length}
use Rattle.laws.specs.Turns.Prefix.{fit_32}
use Rattle.laws.specs.Turns.Shared.{all_share-least}
use Rattle.laws.specs.Turns.Count.{split_count_lem}
use Rattle.laws.specs.Turns.Work.{WorkTask}
use Rattle.memory.specs.Memory.{lock_in, with_locks, turn_in}
use Rattle.turn.specs.declared.Row.{Row}
use Rattle.turn.specs.Rows.{row_image, moved}
use Rattle.turn.specs.Steps.{Out, out, mem_lock, mem_verified, mem_refused, mem_taken, mem_full, mem_placed, mem_at_charge, mem_decided, mem_decided_at, mem_struck, mem_written, mem_held, mem_turn}
use Rattle.simulation.specs.Shown.{shape_of, Shown}
use Rattle.simulation.specs.RowBack.{told}
use Rattle.simulation.specs.Steady.{Steady}
use Rattle.simulation.specs.Moves.{Turned, locked, taken, paged}
use Rattle.simulation.specs.Reads.{page-used, look_is, named_is}
use Rattle.simulation.specs.Searching.{goes_on, tells}

module _ (ops : List Op) (s : State) (i : ℕ) (w : List ℕ) (st : Steady ops s) (h : Shown s w) where
  abbrev op : Op
  op = get_or ops i no_op

  abbrev r : Row
  r = row_image (row_of s i)

  abbrev Does : Move → Out → Type 0
  Does m o = Turned s i (turn_in w) m o

  abbrev turned : Stage → Out
  turned to = mem_turn (shape_of s.file) op s.now r w to

  -- a page is locked, or unlocked
  pub on_lock : (x : ℕ) → PageNo s.file x → get_or s.locks x false ≡ false → Does (turn s op (Lock x)) (turned (Lock x))
  unfolding turn mem_turn mem_lock digit if
  on_lock x n e =
      let z : lock_in w x ≡ 0 = h.picture.locks x (omega (arith, st.good.fit.within)) ∙ ap digit e in
      rw z (locked ops s i w st.good h.picture (Held x Verify) x 1 true (omega (arith, st.good.fit.within)))

  unlocks : (x : ℕ) (to : Stage) → PageNo s.file x → Does (go_lock to x 1 false 0) (out (moved r to) (with_locks w x 1 0))
  unfolding digit
  unlocks x to n = locked ops s i w st.good h.picture to x 1 false (omega (arith, st.good.fit.within))

  on_verify : (x : ℕ) → Does (verified s op x) (mem_verified (shape_of s.file) op r w x)
  unfolding verified mem_verified
  on_verify x = rw (named_is ops s w st h op) (if_both Does (λ e. goes_on ops s i w st h _) (λ e. goes_on ops s i w st h _))

  -- turn (d)
  on_placed
      : (x : ℕ)
      → PageNo s.file x
      → entry_at s.file (home_of s.file op) ≡ x
      → Does (placed s op x (page_at s.file x)) (mem_placed (shape_of s.file) op s.now r w x (page_at s.file x))
  unfolding placed mem_placed mem_full mem_refused mem_taken new_count plan_of home_of
  on_placed x n e =
      if_both Does (λ a. goes_on ops s i w st h _)
      (λ a.
      rw (all_share-least s.file.g p.records op.call (fit_32 s.file st.good.fit), h.picture.used)
      (if_both Does (λ b. tells ops s i w st h _ no_depth 0 x s.now)
      (λ b.
      rw (count a (all_share-least s.file.g p.records op.call (fit_32 s.file st.good.fit) ∙ b))
      (if_both Does (λ c. tells ops s i w st h _ no_page 0 x s.now)
      (λ c.
      rw add-one
      (let u = ltb-false s.file.limit (s.file.used + split_count p op.call) c in
      taken ops s i w st.good h.picture _ (suc s.file.used) _ (omega arith) (omega arith)))))))
    where
      p : Page
      p = page_at s.file x

      here : In p op.call
      here = rw e at (st.coherent.home op.call)

      count
          : ltb (length p.records) s.file.c ≡ false
          → all_share s.file.g p.records op.call ≡ false
          → new_count s.file op x ≡ split_count p op.call
      count a b =
          split_count_lem s.file.g s.file.c p (rec_of op) st.good.fit.depth (st.coherent.pages x) here (ltb-false _ _ a) b

  on_decide
      : (x : ℕ) (k : Kind) (o : Option Rec)
      → PageNo s.file x
      → entry_at s.file (home_of s.file op) ≡ x
      → Does (decided s op k (found_of x o)) (mem_decided (shape_of s.file) op s.now r w k (found_of x o))
  unfolding decided_at mem_decided_at mem_at_charge mem_refused
  on_decide x Search o n e = goes_on ops s i w st h _
  on_decide x Insert None n e = rw (page-used ops s w st h x n) (on_placed x n e)
  on_decide x Insert (Some c) n e = tells ops s i w st h _ already_there c.charge x s.now
  on_decide x Delete None n e = tells ops s i w st h _ absent 0 x s.now
  on_decide x Delete (Some c) n e =
      rw (← if_ap (λ (a : Row). out a w))
      (if_both Does (λ a. goes_on ops s i w st h _) (λ a. tells ops s i w st h _ differs c.charge x s.now))

  -- a delete's answer, by what it finds
  struck_is : (x : ℕ) (o : Option Rec) → mem_struck s.now r (found_of x o) ≡ told (moved r (Held x Unlock)) (struck s.now (found_of x o))
  unfolding told
  struck_is x o = refl

  -- the page is written
  on_write
      : (x : ℕ) (k : Kind)
      → op.kind ≡ k
      → PageNo s.file x
      → WorkTask s.file op x WritePage
      → Does (written s op x k (page_at s.file x)) (mem_written (shape_of s.file) op s.now r w x k (page_at s.file x))
  unfolding written mem_written told added cleared without
  on_write x Search e n t = goes_on ops s i w st h _
  on_write x Insert e n t =
      paged ops s i w st.good h.picture _ _ x _ (omega (arith, st.good.fit.within))
      (omega (arith, (t.1 e).1, put_length (page_at s.file x).records (rec_of op)))
  on_write x Delete e n t =
      rw (look_is ops s w st h x op.call)
      (paged ops s i w st.good h.picture _ _ x _ (omega (arith, st.good.fit.within))
      (let l = filter-le (is_not op.call) (page_at s.file x).records in omega (arith, (st.coherent.pages x).room)))

  -- an operation that holds page x; the writing of a split's old page is given
  pub on_held
      : (x : ℕ) (t : Task)
      → (t ≡ WriteOld → Does (turn s op (Held x t)) (turned (Held x t)))
      → PageNo s.file x
      → WorkTask s.file op x t
      → Does (turn s op (Held x t)) (turned (Held x t))
  unfolding turn mem_turn held_turn mem_held
  on_held x Verify old n k = on_verify x
  on_held x (Release y) old n k = unlocks x (Lock y) n
  on_held x Decide old n k = rw (page-used ops s w st h x n, look_is ops s w st h x op.call) (on_decide x _ _ n k)
  on_held x WritePage old n k = rw (page-used ops s w st h x n) (on_write x _ refl n k)
  on_held x WriteOld old n k = old refl
  on_held x Unlock old n k = unlocks x Done n
