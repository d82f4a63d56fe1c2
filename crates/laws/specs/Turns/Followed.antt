-- The page that a search is to read, or has read, is the one that its entry names, or one that its entry left.
use Rattle.std.specs.Prelude.{ℕ, zero, suc, ◌<◌, ◌≤◌, ◌≡◌, ◌⊎◌, List, length, get_or}
use Rattle.std.proofs.Common.{◌∙◌, arith}
use Rattle.std.proofs.Math.Logic.{inl, inr, ⊎_elim}
use Rattle.spec.specs.declared.Op.{Op}
use Rattle.spec.specs.File.{File, entry_at}
use Rattle.spec.specs.Job.{Job, no_op}
use Rattle.spec.specs.State.{State, Move}
use Rattle.spec.specs.Turn.{home_of}
use Rattle.spec.specs.Run.{row_of, stage_of, tick, act, step, start}
use Rattle.spec.specs.Proper.{FileOk}
use Rattle.spec.specs.Claims.{state_at}
use Rattle.laws.specs.Turns.Rows.{stage-after, step_case, first_row_lem}
use Rattle.laws.specs.Turns.Good.{Good}
use Rattle.laws.specs.Turns.Does.{Coherent, Starts}
use Rattle.laws.specs.Turns.Coherent.{i_does}
use Rattle.laws.specs.Turns.Settled.{Settled}
use Rattle.laws.specs.Turns.Reads.{Reading}
use Rattle.laws.specs.Turns.States.{who, state_at-suc, state_at-zero}
use Rattle.laws.specs.Turns.History.{new_reader}
use Rattle.laws.specs.Turns.Whole.{whole}
use Rattle.laws.specs.Turns.Writes.{Writes, i_writes}
use Rattle.laws.specs.Turns.Rising.{Left, entry-after, Rising, rising}

-- entry e names page x, or left it
abbrev pub Once : State → ℕ → ℕ → Type 0
Once s e x = (entry_at s.file e ≡ x) ⊎ Left s e x

pub record Followed (ops : List Op) (s : State) : Type 0 where
  pub page : (i x : ℕ) → Reading (stage_of s i) x → Once s (home_of s.file (get_or ops i no_op)) x

module _ (ops : List Op) (s : State) (i : ℕ) (m : Move)
    (good : Good ops s)
    (w : Writes s.file (stage_of s i) m)
    (r : Rising s)
  where
    once_after : (e x : ℕ) → Once s e x → Once (act s i m) e x
    unfolding entry_at
    once_after e x o =
        ⊎_elim (λ a. ⊎_elim (λ q. inl (a.names ∙ q)) (λ q. inr ((a.others x).0 ∙ q)) o)
        (λ a.
        ⊎_elim (λ (q : entry_at s.file e ≡ x). inr (rw q at a.gone))
        (λ q. let l = r.higher e x q in inr ((a.others x (λ z. omega arith)).0 ∙ q))
        o)
        (entry-after s e (stage_of s i) m.entry good.fit w.entry)

    act_followed
        : i < length s.rows
        → Starts s (get_or ops i no_op) (stage_of s i) m.stage
        → Followed ops s
        → Followed ops (act s i m)
    unfolding home_of
    act_followed lt z h =
        record {
          page = λ j x.
              stage-after s i m lt (λ j st. Reading st x → Once (act s i m) (home_of s.file (get_or ops j no_op)) x)
              (λ k. once_after (home_of s.file (get_or ops i no_op)) x (⊎_elim inl (λ q. h.page i x q) (new_reader s (get_or ops i no_op) (stage_of s i) z k)))
              (λ j e k. once_after (home_of s.file (get_or ops j no_op)) x (h.page j x k))
              j;
        }

tick_followed : (ops : List Op) (s : State) → Followed ops s → Followed ops (tick s)
unfolding stage_of row_of
tick_followed ops s h = record { page = h.page }

step_followed : (ops : List Op) (s : State) (i : ℕ) → Good ops s → Coherent ops s → Settled ops s → Rising s → Followed ops s → Followed ops (step ops s i)
step_followed ops s i good coherent settled r h =
    step_case (Followed ops) ops s i (tick_followed ops s h)
    (λ lt e. act_followed ops s i _ good (i_writes ops s i good coherent settled) r lt (i_does ops s i good coherent).starts h)

start_followed : (ops : List Op) (f : File) (m : ℕ) → Followed ops (start f m)
unfolding start stage_of row_of
start_followed ops f m =
    record { page = λ i x r. absurd (first_row_lem (λ r. Reading r.stage x → ⊥) (λ h. elim h [ ]) (λ h. elim h [ ]) m i r) }

pub followed : (j : Job) → FileOk j.file → (t : ℕ) → t ≤ length j.turns → Followed j.ops (state_at j t)
followed j ok zero l = rw (state_at-zero j) (start_followed j.ops _ _)
followed j ok (suc t) l =
    let w = whole j ok t (omega arith) in
    rw (state_at-suc j t l)
    (step_followed j.ops _ (who j t) w.good w.coherent w.settled (rising j ok t (omega arith)) (followed j ok t (omega arith)))
