-- What a call comes to: refused, with nothing written, or turns dealt.
use mathlib.Core.Path.{◌≡◌, sym, ◌∙◌}
use mathlib.Core.List.{List}
use Rattle.std.specs.Prelude.{Option, None, Some, Ok, Err}
use Prim.Native.Nat.{ℕ}
use borrow.Author.Tests.{eq-eqb, ne_eqb}
use Rattle.spec.specs.Basics.{when, or_else}
use Rattle.spec.specs.Job.{turn_count_at}
use Rattle.spec.specs.Decode.{header_of}
use Rattle.spec.specs.Check.{Lent, Fault, numbered, job_fault}
use Rattle.spec.specs.Outcome.{outcome_by, after_call, buffer_by, rows_by, work_by}
use Rattle.spec.specs.Deal.{turns_present, small_for_deal, deal_fault, deal_outcome, deal_buffer, deal_rows, deal_work}
use Rattle.laws.specs.Dealt.{deal_said, deals_turns}
use Rattle.turn.specs.declared.Row.{Row}
use Rattle.simulation.specs.RowBack.{blank-row}
use Rattle.run.specs.Call.{lent}
use Rattle.run.proofs.Ends.{blank-stage, some-none}
use Rattle.deal.specs.Call.{Accepted, Dealt, Settled}

-- ---- what the rows of the refusal table tell, and the rows 21 and 11 of dealing

-- turns are present, or none
turns_there : (b : List ℕ) → ((header_of b).turns ≡ 0 → ⊥) → turns_present b ≡ Some turn_count_at
unfolding turns_present when
turns_there b n = rw (ne_eqb (header_of b).turns 0 n)

no_turns : (b : List ℕ) → (header_of b).turns ≡ 0 → turns_present b ≡ None
unfolding turns_present when
no_turns b n = rw (eq-eqb (header_of b).turns 0 n)

module _ (l : Lent) (b : List ℕ) where
  -- a fault of the job's own bytes comes first
  pub by_job : (f : Fault) → job_fault b ≡ Some f → Some f ≡ deal_fault l b
  unfolding deal_fault or_else
  by_job f e = rw e

  pub by_turns : job_fault b ≡ None → ((header_of b).turns ≡ 0 → ⊥) → Some (record { number = 21; place = 10 }) ≡ deal_fault l b
  unfolding deal_fault or_else numbered
  by_turns e n = rw (e, turns_there b n)

  -- then what is lent is looked at
  pub by_lent
      : (o : Option Fault) (s : Option ℕ)
      → job_fault b ≡ None
      → (header_of b).turns ≡ 0
      → s ≡ small_for_deal l b
      → numbered 11 s ≡ o
      → o ≡ deal_fault l b
  unfolding deal_fault or_else numbered
  by_lent o s e n f h = rw (e, no_turns b n, ← f) (sym h)

-- ---- a job for which turns are dealt

module _ {b s : List ℕ} {x : List Row} {w : List ℕ} (a : Accepted b s x w) where
  pub dealt : {t : List ℕ} {y : List Row} {u : List ℕ} {v : ℕ} → Dealt b s t x y w u v → Settled b s t x y w u (Ok v)
  unfolding deal_outcome outcome_by deal_buffer buffer_by deal_rows rows_by deal_work work_by after_call
  dealt r =
      let e = a.faultless in
      let n = (deal_said (lent s x w) b).0 e in
      record {
        answer = rw (e, r.total);
        output = rw e r.output;
        rows = rw e r.rows;
        work = rw e r.work;
        fixed = (sym blank-row, blank-stage);
        dealt = λ z. deals_turns b a.bytes n.accepted n.unturned;
      }

-- ---- a job that is refused: nothing lent is written

pub refused
    : (b s : List ℕ) (x : List Row) (w : List ℕ) (f : Fault)
    → deal_fault (lent s x w) b ≡ Some f
    → Settled b s s x x w w (Err f)
unfolding deal_outcome outcome_by deal_buffer buffer_by deal_rows rows_by deal_work work_by after_call
refused b s x w f e =
    record { answer = rw e; output = rw e; rows = rw e; work = rw e; fixed = (sym blank-row, blank-stage); dealt = λ z. absurd (some-none (sym e ∙ z)) }
