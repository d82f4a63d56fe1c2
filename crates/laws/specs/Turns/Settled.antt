-- In every state of a run: a page in use that no split is changing is named by every entry that its pattern begins, and pages not in use
-- are zero.
use Rattle.std.specs.Prelude.{ℕ, ◌<◌, ◌≡◌, List, length, get_or}
use Rattle.std.proofs.Common.{◌∙◌, arith}
use Rattle.std.proofs.Math.Logic.{by_cases}
use Rattle.std.proofs.Math.Decide.{ℕ_discrete}
use Rattle.spec.specs.declared.Op.{Op}
use Rattle.spec.specs.File.{File, zero_page, page_at}
use Rattle.spec.specs.Job.{no_op}
use Rattle.spec.specs.State.{State, Move}
use Rattle.spec.specs.Run.{file_after, row_of, stage_of, tick, act, step, start}
use Rattle.spec.specs.Proper.{PageNo}
use Rattle.laws.specs.Turns.Rows.{stage_of_other, stage_of_same, stage-after, step_case, first_row_lem}
use Rattle.laws.specs.Turns.Locks.{Holds}
use Rattle.laws.specs.Turns.Good.{MayPage, Good, page_other, held_no}
use Rattle.laws.specs.Turns.Legal.{i_legal}
use Rattle.laws.specs.Turns.Work.{MayTurn, leaves_other}
use Rattle.laws.specs.Turns.Does.{Coherent}
use Rattle.laws.specs.Turns.Coherent.{i_does}
use Rattle.laws.specs.Turns.Owned.{Busy, busy_holds, Owned, Owns, owns-after, Keeps}
use Rattle.laws.specs.Turns.OwnedTurns.{turn-keeps}

pub record Settled (ops : List Op) (s : State) : Type 0 where
  pub owner : (x : ℕ) → PageNo s.file x → ((i : ℕ) → Busy (stage_of s i) x → ⊥) → Owned s.file x
  pub owns : (i : ℕ) → Owns s.file (get_or ops i no_op) (stage_of s i)
  pub unused : (x : ℕ) → (PageNo s.file x → ⊥) → page_at s.file x ≡ zero_page

act_settled
    : (ops : List Op) (s : State) (i : ℕ) (m : Move)
    → i < length s.rows
    → Good ops s
    → Settled ops s
    → MayPage (stage_of s i) m.page
    → MayTurn s.file (stage_of s i) m.entry
    → Keeps s.file (get_or ops i no_op) (stage_of s i) m
    → Settled ops (act s i m)
unfolding page_at
act_settled ops s i m lt good t may d k =
    record {
      owner = λ x p nb.
          k.owner x p (λ b. nb i (rw (stage_of_same s i m lt) b))
          (λ n pn.
          t.owner x pn
          (λ j b. by_cases (ℕ_discrete j i) (λ (e : j ≡ i). n (rw e at b)) (λ e. nb j (rw (stage_of_other s i j m e) b))));
      owns =
          stage-after s i m lt (λ j st. Owns (file_after m s.file) (get_or ops j no_op) st) k.owns
          (λ j e.
          owns-after s.file m _ (stage_of s j)
          (leaves_other s.file m (stage_of s i) (Holds (stage_of s j)) may d (λ p h q. e (good.locks.apart j i p h q)))
          (good.fine j)
          (t.owns j));
      unused = λ x l.
          page_other s.file.table (stage_of s i) m.page may x
          (λ h. let z = held_no s.file _ (stage_of s i) (good.fine i) x h in l (omega arith))
          ∙ t.unused x (λ z. l (omega arith));
    }

tick_settled : (ops : List Op) (s : State) → Settled ops s → Settled ops (tick s)
unfolding stage_of row_of
tick_settled ops s t = record { owner = t.owner; owns = t.owns; unused = t.unused }

pub step_settled : (ops : List Op) (s : State) (i : ℕ) → Good ops s → Coherent ops s → Settled ops s → Settled ops (step ops s i)
step_settled ops s i good coherent t =
    step_case (Settled ops) ops s i (tick_settled ops s t)
    (λ lt e.
    act_settled ops s i _ lt good t (i_legal ops s i good e).page (i_does ops s i good coherent).turns
    (turn-keeps ops s (get_or ops i no_op) good coherent (stage_of s i) (good.fine i) (coherent.work i) mine (t.owns i)))
  where
    mine : (x : ℕ) → Holds (stage_of s i) x → (Busy (stage_of s i) x → ⊥) → Owned s.file x
    mine x h n =
        t.owner x (held_no s.file _ (stage_of s i) (good.fine i) x h)
        (λ j b. n (rw (good.locks.apart j i x (busy_holds (stage_of s j) x b) h) at b))

pub start_settled
    : (ops : List Op) (f : File) (m : ℕ)
    → ((x : ℕ) → PageNo f x → Owned f x)
    → ((x : ℕ) → (PageNo f x → ⊥) → page_at f x ≡ zero_page)
    → Settled ops (start f m)
unfolding start stage_of row_of
start_settled ops f m o u =
    record { owner = λ x p n. o x p; owns = λ i. first_row_lem (λ r. Owns f (get_or ops i no_op) r.stage) tt tt m i; unused = u }
