-- Every change of what the file holds is accounted for: the operation that had the turn is answered "stored" or "deleted" with that moment, and
-- the call is its own.
use Rattle.std.specs.Prelude.{ℕ, suc, ◌+◌, ◌<◌, ◌≡◌, ◌⊎◌, List, length, get_or, Option}
use Rattle.std.proofs.Math.Path.{refl, sym}
use Rattle.std.proofs.Common.{◌∙◌, inr, ⊎_elim, arith}
use Rattle.std.proofs.Math.Logic.{inl, by_cases}
use Rattle.std.proofs.Math.Decide.{ℕ_discrete, dec_lt}
use Rattle.spec.specs.declared.Rec.{Rec}
use Rattle.spec.specs.declared.Op.{Op}
use Rattle.spec.specs.declared.Stage.{Stage}
use Rattle.spec.specs.Job.{no_op}
use Rattle.spec.specs.Code.{not_yet}
use Rattle.spec.specs.State.{Row, State, Answer, Move}
use Rattle.spec.specs.Turn.{turn}
use Rattle.spec.specs.Run.{file_after, code_after, moment_after, row_of, stage_of, tick, act, step}
use Rattle.laws.specs.Turns.Rows.{row_of_same, step_case}
use Rattle.laws.specs.Turns.Good.{Good}
use Rattle.laws.specs.Turns.Lookup.{lookup}
use Rattle.laws.specs.Turns.Says.{Changes, changes-code, says_change}
use Rattle.laws.specs.Turns.Does.{Own, quiet, sees, sees_none, says, Coherent, Does}
use Rattle.laws.specs.Turns.Coherent.{i_does}
use Rattle.laws.specs.Turns.Codes.{Codes, Kept, act-kept}

-- operation i changed what the file holds of call k on turn t
pub record Mut (ops : List Op) (s : State) (i t k : ℕ) : Type 0 where
  pub code : Changes (row_of s i).code
  pub moment : (row_of s i).moment ≡ t
  pub call : k ≡ (get_or ops i no_op).call

pub record Account (H : ℕ → ℕ → Option Rec) (ops : List Op) (s : State) : Type 0 where
  pub cause : (t k : ℕ) → t < s.now → (H (suc t) k ≡ H t k) ⊎ ((i : ℕ) × Mut ops s i t k)

-- what the turn's own answer says
own_change
    : {s : State} {st : Stage} {op : Op} {a b : Option Rec} {y : ℕ} {z : Answer} (r : Row)
    → Own s st op a b y z
    → (b ≡ a) ⊎ (Changes (code_after z r) × (moment_after z r ≡ s.now))
unfolding code_after moment_after
own_change r (quiet e) = inl e
own_change r (sees x w h i j e) = inl e
own_change r (sees_none x t h i j e) = inl e
own_change r (says n u w y) = ⊎_elim (λ e. inl e) (λ e. inr (e.0, refl)) (says_change y)

module _ (H : ℕ → ℕ → Option Rec) (ops : List Op) (s : State) (i : ℕ)
    (before : (k : ℕ) → H s.now k ≡ lookup s.file k)
    (account : Account H ops s)
  where
    -- the changes before now, and those of this turn
    more_cause
        : (t : State)
        → t.now ≡ s.now + 1
        → ((j : ℕ) → ((row_of s j).code ≡ not_yet → ⊥) → Kept (row_of t j) (row_of s j))
        → ((k : ℕ) → (H (suc s.now) k ≡ H s.now k) ⊎ ((e : ℕ) × Mut ops t e s.now k))
        → Account H ops t
    more_cause t n kept new =
        record {
          cause = λ u k l.
              by_cases (dec_lt u s.now) (λ q. ⊎_elim inl (λ w. inr (w.0, stays w.0 u k w.1)) (account.cause u k q))
              (λ q. let z : u ≡ s.now = omega arith in rw z (new k));
        }
      where
        stays : (e u k : ℕ) → Mut ops s e u k → Mut ops t e u k
        stays e u k h =
            let q = kept e (changes-code _ h.code) in
            record { code = rw q.0 h.code; moment = q.1 ∙ h.moment; call = h.call }

    tick_account : ((k : ℕ) → H (suc s.now) k ≡ lookup s.file k) → Account H ops (tick s)
    unfolding row_of
    tick_account after = more_cause (tick s) refl (λ j n. (refl, refl)) (λ k. inl (after k ∙ sym (before k)))

    module _ (good : Good ops s) (coherent : Coherent ops s) (codes : Codes ops s) (lt : i < length s.rows) where
      abbrev m : Move
      m = turn s (get_or ops i no_op) (stage_of s i)

      d : Does s (get_or ops i no_op) (stage_of s i) m
      d = i_does ops s i good coherent

      act_account : ((k : ℕ) → H (suc s.now) k ≡ lookup (file_after m s.file) k) → Account H ops (act s i m)
      act_account after =
          more_cause (act s i m) refl (act-kept ops s i good coherent codes lt)
          (λ k.
          by_cases (ℕ_discrete k (get_or ops i no_op).call)
          (λ (q : k ≡ (get_or ops i no_op).call).
          ⊎_elim (λ e. inl (rw q (after _ ∙ e ∙ sym (before _))))
          (λ w. inr (i, record { code = rw (row_of_same s i m lt) w.0; moment = rw (row_of_same s i m lt) w.1; call = q }))
          (own_change (row_of s i) d.own))
          (λ n. inl (after k ∙ d.others k n ∙ sym (before k))))

    pub step_account
        : ((k : ℕ) → H (suc s.now) k ≡ lookup (step ops s i).file k)
        → Good ops s
        → Coherent ops s
        → Codes ops s
        → Account H ops (step ops s i)
    step_account after good coherent codes =
        step_case (λ t. ((k : ℕ) → H (suc s.now) k ≡ lookup t.file k) → Account H ops t) ops s i tick_account
        (λ lt e. act_account good coherent codes lt)
        after
