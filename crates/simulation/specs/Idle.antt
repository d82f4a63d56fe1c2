-- Who would only wait, or is finished, in memory and in the machine: the row and the working memory say the same as the state that they show.
use Rattle.std.specs.Prelude.{◌≡◌, List, Bool, true, false, ℕ, ◌≤◌, eqb, get_or}
use Rattle.std.proofs.Math.Path.{refl, ap}
use Rattle.std.proofs.Common.{◌∙◌, arith}
use Rattle.std.proofs.Math.Bool.{not}
use Rattle.spec.specs.declared.Op.{Op}
use Rattle.spec.specs.declared.Stage.{Stage}
use Rattle.spec.specs.declared.Stage.TheVariants.{NotBegun, ReadPage, Reread, Lock, Held, Split, Done}
use Rattle.spec.specs.Job.{no_op}
use Rattle.spec.specs.Split.{digit}
use Rattle.spec.specs.State.{State}
use Rattle.spec.specs.Run.{row_of, stage_of, idle}
use Rattle.laws.specs.Turns.Good.{Fine}
use Rattle.turn.specs.Rows.{row_image}
use Rattle.turn.specs.Steps.{idle_at, idles}
use Rattle.turn.specs.Safe.{Lockable}
use Rattle.simulation.specs.Shown.{Shown}
use Rattle.simulation.specs.RowBack.{stage_back}
use Rattle.simulation.specs.Steady.{Steady}

-- a lock, as a number and as a truth
digit_set : (l : Bool) → not (eqb (digit l) 0) ≡ l
unfolding digit
digit_set true = refl
digit_set false = refl

module _ (ops : List Op) (s : State) (i : ℕ) (w : List ℕ) (st : Steady ops s) (h : Shown s w) where
  -- a page that is to be locked is in use
  in_use : (x : ℕ) → stage_of s i ≡ Lock x → x ≤ s.file.limit
  in_use x e = let n : Fine s.file (get_or ops i no_op) (Lock x) = rw e at (st.good.fine i) in omega (arith, n, st.good.fit.within)

  at_stage : (to : Stage) → stage_of s i ≡ to → idle_at w to ≡ idle s.locks to
  unfolding idle_at idle
  at_stage NotBegun e = refl
  at_stage (ReadPage x) e = refl
  at_stage (Reread x u) e = refl
  at_stage (Lock x) e = ap (λ (n : ℕ). not (eqb n 0)) (h.picture.locks x (in_use x e)) ∙ digit_set (get_or s.locks x false)
  at_stage (Held x k) e = refl
  at_stage (Split x b n q) e = refl
  at_stage Done e = refl

  pub idles_is : idles (row_image (row_of s i)) w ≡ idle s.locks (stage_of s i)
  unfolding idles stage_of
  idles_is = rw (stage_back s.now (row_of s i) (st.fields i)) (at_stage (stage_of s i) refl)

  pub lockable : Lockable (row_image (row_of s i)) w
  unfolding stage_of
  lockable =
      record {
        size = h.picture.long;
        page = λ x e. omega (arith, in_use x (rw (stage_back s.now (row_of s i) (st.fields i)) at e), st.good.fit.most);
      }
