-- A run starts good; and where every lock has its holder, some unfinished operation can use the next turn.
use Rattle.std.specs.Prelude.{ℕ, suc, ◌≡◌, refl, ◌⊎◌, List, Bool, true, false, get_or, replicate}
use Rattle.std.proofs.Common.{inl, inr, ⊎_elim}
use Rattle.std.proofs.lemmas.Bool.{false≢true}
use Rattle.std.proofs.lemmas.List.{length-replicate}
use Rattle.spec.specs.declared.Op.{Op}
use Rattle.spec.specs.declared.Stage.{Stage}
use Rattle.spec.specs.declared.Stage.TheVariants.{NotBegun, ReadPage, Reread, Lock, Held, Split, Done}
use Rattle.spec.specs.File.{File}
use Rattle.spec.specs.Job.{no_op}
use Rattle.spec.specs.State.{State}
use Rattle.spec.specs.Run.{row_of, stage_of, idle, start}
use Rattle.spec.specs.Proper.{Fit}
use Rattle.laws.specs.Tools.{replicate_all}
use Rattle.laws.specs.Turns.Ranges.{Locked}
use Rattle.laws.specs.Turns.Rows.{first_row_lem}
use Rattle.laws.specs.Turns.Locks.{Holds, Locks}
use Rattle.laws.specs.Turns.Good.{Fine, Good}

no_locks : (n p : ℕ) → Locked (replicate n false) p → ⊥
no_locks n p = replicate_all (λ b. b ≡ true → ⊥) n false false false≢true false≢true p

pub start_good : (ops : List Op) (f : File) (m : ℕ) → Fit f → Good ops (start f m)
unfolding start stage_of row_of
start_good ops f m fit =
    record {
      fit = fit;
      size = length-replicate _ false;
      fine = λ i. first_row_lem (λ r. Fine f (get_or ops i no_op) r.stage) tt tt m i;
      locks =
          record {
            holder = λ p h. absurd (no_locks (suc f.limit) p h);
            locked = λ i p h. absurd (first_row_lem (λ r. Holds r.stage p → ⊥) (λ k. k) (λ k. k) m i h);
            apart = λ i j p h k. absurd (first_row_lem (λ r. Holds r.stage p → ⊥) (λ k. k) (λ k. k) m i h);
          };
    }

-- an operation that holds a page can use its turn
holder_moves : (l : List Bool) (st : Stage) (p : ℕ) → Holds st p → idle l st ≡ false
unfolding idle
holder_moves l NotBegun p h = absurd h
holder_moves l (ReadPage x) p h = absurd h
holder_moves l (Reread x t) p h = absurd h
holder_moves l (Lock x) p h = absurd h
holder_moves l (Held x t) p h = refl
holder_moves l (Split x b n q) p h = refl
holder_moves l Done p h = absurd h

-- an operation that is idle is finished, or waits for a locked page
idle_why : (l : List Bool) (st : Stage) → idle l st ≡ true → (st ≡ Done) ⊎ ((x : ℕ) × Locked l x)
unfolding idle
idle_why l NotBegun e = absurd (false≢true e)
idle_why l (ReadPage x) e = absurd (false≢true e)
idle_why l (Reread x t) e = absurd (false≢true e)
idle_why l (Lock x) e = inr (x, e)
idle_why l (Held x t) e = absurd (false≢true e)
idle_why l (Split x b n q) e = absurd (false≢true e)
idle_why l Done e = inl refl

-- where some operation is unfinished, one of them can use the next turn
pub progress : (s : State) → Locks s → (i : ℕ) → (stage_of s i ≡ Done → ⊥) → (j : ℕ) × (idle s.locks (stage_of s j) ≡ false)
progress s o i u = by (idle s.locks (stage_of s i)) refl
  where
    by : (b : Bool) → idle s.locks (stage_of s i) ≡ b → (j : ℕ) × (idle s.locks (stage_of s j) ≡ false)
    by true e =
        ⊎_elim (λ d. absurd (u d)) (λ w. let h = o.holder w.0 w.1 in (h.0, holder_moves _ _ w.0 h.1)) (idle_why _ _ e)
    by false e = (i, e)
