-- The turns of a search, and the first turn of every operation, in memory as in the machine.
use Rattle.std.specs.Prelude.{◌≡◌, refl, List, ℕ, get_or, Option, None, Some}
use Rattle.std.proofs.Common.{sym}
use Rattle.spec.specs.declared.Rec.{Rec}
use Rattle.spec.specs.declared.Op.{Op}
use Rattle.spec.specs.declared.Stage.{Stage}
use Rattle.spec.specs.declared.Stage.TheVariants.{NotBegun, ReadPage, Reread, Done}
use Rattle.spec.specs.Code.{found, not_found}
use Rattle.spec.specs.File.{page_at, find_in, found_of}
use Rattle.spec.specs.Job.{no_op}
use Rattle.spec.specs.State.{State, same, answer, Move, go}
use Rattle.spec.specs.Turn.{found_moment, looked, looked_at, reread, turn}
use Rattle.spec.specs.Run.{row_of, stage_of}
use Rattle.spec.specs.Proper.{PageNo}
use Rattle.laws.specs.Tools.{if_both}
use Rattle.laws.specs.Turns.Slots.{found-moment}
use Rattle.memory.specs.Memory.{turn_in}
use Rattle.turn.specs.Rows.{row_image, moved, answered}
use Rattle.turn.specs.Steps.{Out, out, found_at, mem_looked, mem_looked_at, mem_reread, mem_turn}
use Rattle.simulation.specs.Shown.{shape_of, Shown}
use Rattle.simulation.specs.RowBack.{told}
use Rattle.simulation.specs.Steady.{Steady}
use Rattle.simulation.specs.Moves.{Turned, calm}
use Rattle.simulation.specs.Reads.{home_is, page-used, look_is, named_is}

module _ (ops : List Op) (s : State) (i : ℕ) (w : List ℕ) (st : Steady ops s) (h : Shown s w) where
  abbrev op : Op
  op = get_or ops i no_op

  abbrev Does : Move → Out → Type 0
  Does m o = Turned s i (turn_in w) m o

  abbrev turned : Stage → Out
  turned to = mem_turn (shape_of s.file) op s.now (row_image (row_of s i)) w to

  -- a turn that changes nothing shared, and one that answers besides
  pub goes_on : (to : Stage) → Does (go to same) (out (moved (row_image (row_of s i)) to) w)
  unfolding told
  goes_on to = calm ops s i w st.good h.picture to same

  pub tells
      : (to : Stage) (k c x t : ℕ)
      → Does (go to (answer k c x t)) (out (answered (moved (row_image (row_of s i)) to) k c x t) w)
  unfolding told
  tells to k c x t = calm ops s i w st.good h.picture to (answer k c x t)

  pub on_begin : Does (turn s op NotBegun) (turned NotBegun)
  unfolding turn mem_turn
  on_begin = rw (named_is ops s w st h op) (goes_on _)

  found-is
      : (x : ℕ) (c : Rec)
      → PageNo s.file x
      → stage_of s i ≡ ReadPage x
      → find_in (page_at s.file x).records op.call ≡ Some c
      → found_at (shape_of s.file) op s.now w x ≡ found_moment s op x
  unfolding found_at
  found-is x c n e q =
      rw (named_is ops s w st h op, page-used ops s w st h x n, home_is s.file op)
      (sym (found-moment ops s i x c (turn_in w) st.good st.coherent st.rising st.followed h.turns e q))

  on_looked
      : (x : ℕ) (o : Option Rec)
      → PageNo s.file x
      → stage_of s i ≡ ReadPage x
      → find_in (page_at s.file x).records op.call ≡ o
      → Does (looked s op (found_of x o)) (mem_looked (shape_of s.file) op s.now (row_image (row_of s i)) w (found_of x o))
  unfolding looked_at mem_looked_at
  on_looked x None n e q = goes_on _
  on_looked x (Some c) n e q = rw (found-is x c n e q) (tells Done found c.charge x _)

  pub on_read : (x : ℕ) → stage_of s i ≡ ReadPage x → PageNo s.file x → Does (turn s op (ReadPage x)) (turned (ReadPage x))
  unfolding turn mem_turn
  on_read x e n = rw (page-used ops s w st h x n, look_is ops s w st h x op.call) (on_looked x _ n e refl)

  pub on_reread : (x t : ℕ) → Does (turn s op (Reread x t)) (turned (Reread x t))
  unfolding turn mem_turn reread mem_reread
  on_reread x t = rw (named_is ops s w st h op) (if_both Does (λ e. tells Done not_found 0 x t) (λ e. goes_on _))
