-- An operation that would only wait, or is finished: a turn leaves it and the memory as they are.
use Rattle.std.specs.Prelude.{ℕ, ◌≡◌, List, true}
use Rattle.std.proofs.Math.Path.{refl}
use Rattle.std.proofs.lemmas.Bool.{false≢true, not-true}
use Rattle.spec.specs.declared.Op.{Op}
use Rattle.spec.specs.declared.Stage.{Stage}
use Rattle.spec.specs.declared.Stage.TheVariants.{NotBegun, ReadPage, Reread, Lock, Held, Split, Done}
use Rattle.laws.specs.Tools.{if-false}
use Rattle.memory.specs.declared.Shape.{Shape}
use Rattle.turn.specs.declared.Row.{Row}
use Rattle.turn.specs.Rows.{stage_in}
use Rattle.turn.specs.Steps.{out, mem_lock, mem_turn, mem_step, idle_at, idles}
use Rattle.turn.specs.Safe.{Safe, Lockable}

module _ (sh : Shape) (op : Op) (t : ℕ) (r : Row) (w : List ℕ) where
  idle_at_lem : (to : Stage) → idle_at w to ≡ true → mem_turn sh op t r w to ≡ out r w
  unfolding idle_at mem_turn mem_lock
  idle_at_lem NotBegun e = absurd (false≢true e)
  idle_at_lem (ReadPage x) e = absurd (false≢true e)
  idle_at_lem (Reread x u) e = absurd (false≢true e)
  idle_at_lem (Lock x) e = if-false _ _ (not-true _ e)
  idle_at_lem (Held x k) e = absurd (false≢true e)
  idle_at_lem (Split x b n q) e = absurd (false≢true e)
  idle_at_lem Done e = refl

  pub idle_stays : idles r w ≡ true → mem_step sh op t r w ≡ out r w
  unfolding idles mem_step
  idle_stays e = idle_at_lem (stage_in r) e

-- what a step asks is more than what it asks to look
pub safe_lockable : (sh : Shape) (op : Op) (r : Row) (w : List ℕ) → Safe sh op r w → Lockable r w
safe_lockable sh op r w s = record { size = s.ready.size; page = λ x e. rw e at s.at }
