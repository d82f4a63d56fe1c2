-- Every turn keeps the file in order, and changes what it holds only as the turn's answer says.
use Rattle.std.specs.Prelude.{ℕ, ◌<◌, List, length, get_or}
use Rattle.std.proofs.Math.Path.{refl}
use Rattle.std.proofs.Common.{eqb-true}
use Rattle.spec.specs.declared.Op.{Op}
use Rattle.spec.specs.declared.Task.{Task}
use Rattle.spec.specs.declared.Task.TheVariants.{Verify, Release, Decide, WritePage, WriteOld, Unlock}
use Rattle.spec.specs.declared.Part.{Part}
use Rattle.spec.specs.declared.Part.TheVariants.{WriteNew, WriteEntry, UnlockNew}
use Rattle.spec.specs.declared.Stage.{Stage}
use Rattle.spec.specs.declared.Stage.TheVariants.{NotBegun, ReadPage, Reread, Lock, Held, Split, Done}
use Rattle.spec.specs.File.{File, entry_at}
use Rattle.spec.specs.Job.{no_op}
use Rattle.spec.specs.State.{State, Move}
use Rattle.spec.specs.Turn.{home_of, entry_of, reread, verified, held_turn, split_turn, turn}
use Rattle.spec.specs.Run.{directory_after, file_after, row_of, stage_of, tick, act, step}
use Rattle.laws.specs.Tools.{if_case}
use Rattle.laws.specs.Turns.Rows.{stage-after, step_case}
use Rattle.laws.specs.Turns.Locks.{Holds}
use Rattle.laws.specs.Turns.Good.{Fine, MayPage, Good}
use Rattle.laws.specs.Turns.Legal.{i_legal}
use Rattle.laws.specs.Turns.Work.{WorkTask, Work, work-after, leaves_other}
use Rattle.laws.specs.Turns.Does.{quiet, sees_none, Coherent, Does}
use Rattle.laws.specs.Turns.PageTurns.{calm, begin_does, looked_does, decided_does, written_does}
use Rattle.laws.specs.Turns.SplitTurns.{old_does, new_does, entry_does, unlock_does}
use Rattle.laws.specs.Turns.Decision.{decision}

module _ (ops : List Op) (s : State) (op : Op) (good : Good ops s) (coherent : Coherent ops s) where
  abbrev f : File
  f = s.file

  abbrev D : Stage → Move → Type 0
  D st m = Does s op st m

  held_does : (x : ℕ) (t : Task) → Fine f op (Held x t) → WorkTask f op x t → D (Held x t) (held_turn s op x t)
  unfolding held_turn verified home_of entry_of entry_at directory_after
  held_does x Verify h w =
      if_case (D (Held x Verify)) (λ e. calm ops s op good coherent (eqb-true _ _ e) (quiet refl) tt)
      (λ e. calm ops s op good coherent tt (quiet refl) tt)
  held_does x (Release y) h w = calm ops s op good coherent tt (quiet refl) tt
  held_does x Decide h w = decided_does ops s op good coherent x w refl (decision s op x _)
  held_does x WritePage h w = written_does ops s op good coherent x w.0 _ refl h.0 w
  held_does x WriteOld h w = old_does ops s op good coherent x h.0 w.0 w.1
  held_does x Unlock h w = calm ops s op good coherent tt (quiet refl) tt

  split_does : (x b n : ℕ) (q : Part) → Fine f op (Split x b n q) → Work f op (Split x b n q) → D (Split x b n q) (split_turn s op x b n q)
  split_does x b n (WriteNew i) h w = new_does ops s op good coherent x h.0.number w.0 b n i h.0 h.1 w.1
  split_does x b n (WriteEntry j) h w = entry_does ops s op good coherent x h.0.number w.0 b n j h.0 h.1 w.1
  split_does x b n UnlockNew h w = unlock_does ops s op good coherent x h.0.number w.0 b n w.1.1

  turn_does : (st : Stage) → Fine f op st → Work f op st → D st (turn s op st)
  unfolding turn reread entry_of
  turn_does NotBegun h w = begin_does ops s op good coherent _ _ refl refl
  turn_does (ReadPage x) h w = looked_does ops s op good coherent x _ w refl
  turn_does (Reread x t) h w =
      if_case (D (Reread x t)) (λ e. calm ops s op good coherent tt (sees_none x t w refl (eqb-true _ _ e) refl) tt)
      (λ e. calm ops s op good coherent w (quiet refl) refl)
  turn_does (Lock x) h w = calm ops s op good coherent tt (quiet refl) tt
  turn_does (Held x t) h w = held_does x t h w
  turn_does (Split x b n q) h w = split_does x b n q h w
  turn_does Done h w = calm ops s op good coherent tt (quiet refl) tt

act_coherent
    : (ops : List Op) (s : State) (i : ℕ) (m : Move)
    → i < length s.rows
    → Good ops s
    → Coherent ops s
    → MayPage (stage_of s i) m.page
    → Does s (get_or ops i no_op) (stage_of s i) m
    → Coherent ops (act s i m)
act_coherent ops s i m lt good coherent may d =
    record {
      pages = d.pages;
      home = d.home;
      work =
          stage-after s i m lt (λ j st. Work (file_after m s.file) (get_or ops j no_op) st) d.work
          (λ j e.
          work-after s.file m _ (stage_of s j)
          (leaves_other s.file m (stage_of s i) (Holds (stage_of s j)) may d.turns (λ p h k. e (good.locks.apart j i p h k)))
          (good.fine j)
          (coherent.work j));
    }

tick_coherent : (ops : List Op) (s : State) → Coherent ops s → Coherent ops (tick s)
unfolding stage_of row_of
tick_coherent ops s t = record { pages = t.pages; home = t.home; work = t.work }

-- what the turn of operation i does
pub i_does
    : (ops : List Op) (s : State) (i : ℕ)
    → Good ops s
    → Coherent ops s
    → Does s (get_or ops i no_op) (stage_of s i) (turn s (get_or ops i no_op) (stage_of s i))
i_does ops s i good coherent = turn_does ops s (get_or ops i no_op) good coherent (stage_of s i) (good.fine i) (coherent.work i)

pub step_coherent : (ops : List Op) (s : State) (i : ℕ) → Good ops s → Coherent ops s → Coherent ops (step ops s i)
step_coherent ops s i good coherent =
    step_case (Coherent ops) ops s i (tick_coherent ops s coherent)
    (λ lt e. act_coherent ops s i _ lt good coherent (i_legal ops s i good e).page (i_does ops s i good coherent))
