-- The turns of a split, in memory as in the machine: the new pages, the entries, the unlocking, the old page. What takes the machine a walk over
-- the directory or over the new pages is one number here: where the changed entries begin and end, and the last split that moves an entry.
use Rattle.std.specs.Prelude.{◌≡◌, refl, List, Bool, ℕ, suc, ◌+◌, ◌-◌, get_or}
use Rattle.std.proofs.Common.{sym, arith}
use Rattle.std.proofs.Math.Bool.{false}
use Rattle.std.proofs.Math.Numerals.{add-one}
use Rattle.std.proofs.Math.Dec.{eqb}
use borrow.Author.Tests.{eqb-true, eq-eqb}
use Rattle.spec.specs.declared.Op.{Op}
use Rattle.spec.specs.declared.Task.TheVariants.{WriteOld}
use Rattle.spec.specs.declared.Part.{Part}
use Rattle.spec.specs.declared.Part.TheVariants.{WriteNew, WriteEntry, UnlockNew}
use Rattle.spec.specs.declared.Stage.{Stage}
use Rattle.spec.specs.declared.Stage.TheVariants.{Held, Split}
use Rattle.spec.specs.Basics.{if}
use Rattle.spec.specs.File.{Page, File, zero_page, page_at}
use Rattle.spec.specs.Job.{no_op}
use Rattle.spec.specs.Split.{digit}
use Rattle.spec.specs.State.{State, same, answer}
use Rattle.spec.specs.Turn.{home_of, plan_of, goes_to, old_written, held_turn, split_turn, turn}
use Rattle.spec.specs.Run.{row_of, stage_of}
use Rattle.laws.specs.Tools.{if_ap, bool_same, first, rest, each_imp, each_or}
use Rattle.laws.specs.Turns.Good.{Fine, goes_span}
use Rattle.laws.specs.Turns.Work.{Work}
use Rattle.laws.specs.Turns.SplitPlan.{made}
use Rattle.laws.specs.Turns.Slots.{slot_part, slot_after, entry_slot}
use Rattle.laws.specs.Turns.Interval.{end_of, split_first, split_next}
use Rattle.laws.specs.Turns.GoesBy.{last_one, last_split, goes_last, own_stays}
use Rattle.laws.specs.Turns.Full.{Full, full-count}
use Rattle.memory.specs.Memory.{turn_in}
use Rattle.turn.specs.declared.Row.{Row}
use Rattle.turn.specs.Rows.{row_image, answered}
use Rattle.turn.specs.Steps.{Out, behind, goes, mem_old, mem_held, after_new, after_entry, mem_new, mem_entry, mem_split, mem_turn}
use Rattle.simulation.specs.Shown.{shape_of, Shown}
use Rattle.simulation.specs.RowBack.{told}
use Rattle.simulation.specs.Steady.{Steady}
use Rattle.simulation.specs.Moves.{Turned, slot_with, locked, paged, entered}
use Rattle.simulation.specs.Reads.{home_is, page-used, plan_is}

-- a row that is answered where a test holds
told-if : (r : Row) (b : Bool) (k c x t : ℕ) → if b (answered r k c x t) r ≡ told r (if b (answer k c x t) same)
unfolding told
told-if r b k c x t = if_ap (told r) b (answer k c x t) same

behind_is : (g : ℕ) (p : Page) → behind g p ≡ end_of g p
unfolding behind end_of
behind_is g p = refl

module _ (ops : List Op) (s : State) (i : ℕ) (w : List ℕ) (st : Steady ops s) (h : Shown s w) where
  abbrev f : File
  f = s.file

  abbrev op : Op
  op = get_or ops i no_op

  abbrev r : Row
  r = row_image (row_of s i)

  abbrev turned : Stage → Out
  turned to = mem_turn (shape_of f) op s.now r w to

  -- the old page is written
  pub on_old : (x : ℕ) → stage_of s i ≡ Held x WriteOld → Turned s i (turn_in w) (turn s op (Held x WriteOld)) (turned (Held x WriteOld))
  unfolding turn mem_turn held_turn mem_held old_written mem_old goes
  on_old x e =
      let n : Fine f op (Held x WriteOld) = rw e at (st.good.fine i) in
      let k : Work f op (Held x WriteOld) = rw e at (st.coherent.work i) in
      let u : Full f (Held x WriteOld) = rw e at (st.full i) in
      let count = full-count f op x u st.good.fit (st.coherent.pages x) k.0 in
      let stays = own_stays f op x st.good.fit (st.coherent.pages x) k.0 0 in
      let test : eqb (last_split f op x (home_of f op)) 0 ≡ eqb (goes_to f op x 0 (home_of f op)) 0
      = bool_same _ _ (λ z. eq-eqb _ _ (stays.1 (eqb-true _ _ z))) (λ z. eq-eqb _ _ (stays.0 (eqb-true _ _ z))) in
      rw (page-used ops s w st h x n.0, plan_is ops s w st h op x n.0, home_is f op, ← count, test, told-if)
      (paged ops s i w st.good h.picture _ _ x _ (omega (arith, n.0, st.good.fit.within))
      (first (made f op x st.good.fit (st.coherent.pages x) k.0)).ok.room)

  module _ (x b n : ℕ) where
    on_new
        : (m : ℕ)
        → stage_of s i ≡ Split x b n (WriteNew m)
        → Turned s i (turn_in w) (split_turn s op x b n (WriteNew m)) (mem_split (shape_of f) op s.now r w x b n (WriteNew m))
    unfolding split_turn mem_split mem_new after_new told
    on_new m e =
        let q : Fine f op (Split x b n (WriteNew m)) = rw e at (st.good.fine i) in
        let k : Work f op (Split x b n (WriteNew m)) = rw e at (st.coherent.work i) in
        rw (plan_is ops s w st h op x q.0.number, add-one, behind_is, ← split_first ops s i x b n st.good st.coherent st.settled m e)
        (paged ops s i w st.good h.picture _ same (b + m) _ (omega (arith, q.0.top, q.1, st.good.fit.within))
        (each_or (plan_of f op x).news (m - 1) zero_page (omega arith)
        (each_imp (λ (z : Page) g. g.ok.room) (rest (made f op x st.good.fit (st.coherent.pages x) k.0)))))

    on_entry
        : (j : ℕ)
        → stage_of s i ≡ Split x b n (WriteEntry j)
        → Turned s i (slot_with (turn_in w) j (page_at f x).depth s.now) (split_turn s op x b n (WriteEntry j))
        (mem_split (shape_of f) op s.now r w x b n (WriteEntry j))
    unfolding split_turn mem_split mem_entry after_entry goes
    on_entry j e =
        let q : Fine f op (Split x b n (WriteEntry j)) = rw e at (st.good.fine i) in
        let k : Work f op (Split x b n (WriteEntry j)) = rw e at (st.coherent.work i) in
        let next = split_next ops s i x b n st.good st.coherent st.settled j e in
        let go = goes_last f op x st.good.fit (st.coherent.pages x) k.0 b j k.1.2 q.1 in
        let to : b + last_one f.g op.call j n (page_at f x).depth 1 0 ≡ goes_to f op x b j = rw q.0.count (sym go.0) in
        let span = goes_span f op x b n j q.0 q.1 in
        rw (page-used ops s w st h x q.0.number, home_is f op, add-one, behind_is, ← next.3, told-if, to)
        (entered ops s i w st.good h.picture _ _ j (goes_to f op x b j) (page_at f x).depth k.1.2
        (omega (arith, span, q.0.top, st.good.fit.within, st.good.fit.most))
        (omega (arith, entry_slot ops s i x b n j st.good st.coherent e, st.good.fit.depth))
        st.time)

    on_unlock
        : stage_of s i ≡ Split x b n UnlockNew
        → Turned s i (turn_in w) (split_turn s op x b n UnlockNew) (mem_split (shape_of f) op s.now r w x b n UnlockNew)
    unfolding split_turn mem_split digit
    on_unlock e =
        let q : Fine f op (Split x b n UnlockNew) = rw e at (st.good.fine i) in
        rw add-one
        (locked ops s i w st.good h.picture (Held x WriteOld) (suc b) n false (omega (arith, q.0.top, st.good.fit.within)))

    -- each turn of a split, until the old page is written
    pub on_split
        : (q : Part)
        → stage_of s i ≡ Split x b n q
        → Turned s i (slot_after s (Split x b n q) (turn_in w)) (turn s op (Split x b n q)) (turned (Split x b n q))
    unfolding turn mem_turn slot_after slot_part slot_with
    on_split (WriteNew m) e = on_new m e
    on_split (WriteEntry j) e = on_entry j e
    on_split UnlockNew e = on_unlock e
