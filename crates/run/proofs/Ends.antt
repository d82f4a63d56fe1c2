-- What a call comes to: refused, with nothing written, or run.
use mathlib.Core.Path.{◌≡◌, refl, sym, ap, ◌∙◌}
use mathlib.Core.List.{List}
use Rattle.std.specs.Prelude.{Option, None, Some, Ok, Err}
use Rattle.std.proofs.lemmas.Option.{none-some}
use Prim.Native.Nat.{ℕ, ◌≤◌}
use lib.ListN.{length, drop}
use Rattle.spec.specs.declared.Stage.TheVariants.{NotBegun}
use Rattle.spec.specs.Basics.{if, or_else}
use Rattle.spec.specs.Decode.{header_of, job_of}
use Rattle.spec.specs.Result.{Result, result, read_result}
use Rattle.spec.specs.Check.{Lent, Fault, work_size, result_size, small_for, small_output, numbered, job_fault, first_fault}
use Rattle.spec.specs.Outcome.{result_bytes, outcome_by, outcome, after_call, buffer_by, buffer_after, rows_by, rows_after, work_by, work_after}
use Rattle.laws.specs.Codec.Tools.{failed, among_none, among_end}
use Rattle.laws.specs.Codec.Sizes.{bytes_total}
use Rattle.laws.specs.ReadBack.{reads}
use Rattle.laws.specs.Demand3.{demand3}
use Rattle.laws.specs.PagesTold.{pages_behind}
use Rattle.laws.specs.MostTurns.{at_most}
use Rattle.laws.specs.Rounds.{everyone}
use Rattle.header.specs.declared.Header.{Header}
use Rattle.header.specs.Counts.{counts_of}
use Rattle.turn.specs.declared.Row.{Row}
use Rattle.turn.specs.Rows.{blank_row, stage_in}
use Rattle.simulation.specs.RowBack.{blank-row}
use Rattle.run.specs.Table.{Accepts}
use Rattle.run.specs.Call.{lent, Accepted, Ran, Written, Settled}

-- the fixed value of a row says that its operation is not begun
pub blank-stage : stage_in blank_row ≡ NotBegun
unfolding stage_in if
blank-stage = refl

-- ---- what the rows of the refusal table tell

module _ (l : Lent) (b : List ℕ) where
  -- a fault of the job's own bytes comes first
  pub by_job : (f : Fault) → job_fault b ≡ Some f → Some f ≡ first_fault l b
  unfolding first_fault or_else
  by_job f e = rw e

  -- then what is lent is looked at
  pub by_lent : (o : Option Fault) (s : Option ℕ) → job_fault b ≡ None → s ≡ small_output l b → numbered 11 s ≡ o → o ≡ first_fault l b
  unfolding first_fault or_else
  by_lent o s e f h = rw (e, ← f) (sym h)

pub some-none : {f : Fault} → Some f ≡ None → ⊥
some-none e = none-some _ (sym e)

-- ---- a job that meets no row

-- row 11 does not hold: what is lent is enough
enough_for : (size : ℕ) (l : Lent) (b : List ℕ) → small_for size l b ≡ None → (size ≤ l.output) × ((header_of b).ops ≤ l.rows) × (work_size ≤ l.work)
unfolding small_for
enough_for size l b e = let z = simp (failed, among_none, among_end) at e in (z.0, z.1.0, z.1.1.0)

none_of : (j : Option Fault) (o : Option ℕ) → or_else j (numbered 11 o) ≡ None → (j ≡ None) × (o ≡ None)
unfolding or_else numbered
none_of None None e = (refl, refl)
none_of None (Some q) e = absurd (some-none e)
none_of (Some f) o e = absurd (some-none e)

module _ {b s : List ℕ} {x : List Row} {w : List ℕ} (a : Accepted b s x w) where
  neither : (job_fault b ≡ None) × (small_output (lent s x w) b ≡ None)
  neither = none_of (job_fault b) (small_output (lent s x w) b) (unfold first_fault in a.faultless)

  pub faultless : job_fault b ≡ None
  faultless = neither.0

  pub accepts : (h : Header) → counts_of h ≡ header_of b → Accepts h b
  accepts h c = record { bytes = a.bytes; accepted = neither.0; counts = c }

  pub enough : (h : Header) → counts_of h ≡ header_of b → (result_size (counts_of h) ≤ length s) × (h.ops ≤ length x) × (work_size ≤ length w)
  enough h c = let z = enough_for (result_size (header_of b)) (lent s x w) b (unfold small_output in neither.1) in (rw c z.0, rw (← c) at z.1, z.2)

  -- demand 3 of what is written, its pages and turns used, and the rounds that finish the job
  written : {t : List ℕ} {y : List Row} {u : List ℕ} {v : ℕ} → Ran b s t x y w u v → Written b t (Ok v)
  written {t} {v = v} r =
      let back : read_result t ≡ result (job_of b) = rw r.result (reads b a.bytes faultless (drop (length (result_bytes b)) s)) in
      record {
        reads = back;
        total = ap Ok (r.total ∙ bytes_total b ∙ sym (ap (λ (z : Result). z.total) back));
        explained = rw r.result (demand3 b (drop (length (result_bytes b)) s) a.bytes faultless);
        told = rw r.result (pages_behind b (drop (length (result_bytes b)) s) a.bytes faultless);
        within = rw r.result (at_most b (drop (length (result_bytes b)) s) a.bytes faultless);
        done = rw r.result (everyone b (drop (length (result_bytes b)) s) a.bytes faultless);
      }

  pub ran : {t : List ℕ} {y : List Row} {u : List ℕ} {v : ℕ} → Ran b s t x y w u v → Settled b s t x y w u (Ok v)
  unfolding outcome outcome_by buffer_by buffer_after rows_by rows_after work_by work_after after_call
  ran r =
      let e = a.faultless in
      record {
        answer = rw (e, r.total);
        result = rw e r.result;
        rows = rw e r.rows;
        work = rw e r.work;
        fixed = (sym blank-row, blank-stage);
        written = λ z. written r;
      }

-- ---- a job that is refused: nothing lent is written

pub refused
    : (b s : List ℕ) (x : List Row) (w : List ℕ) (f : Fault)
    → first_fault (lent s x w) b ≡ Some f
    → Settled b s s x x w w (Err f)
unfolding outcome outcome_by buffer_by buffer_after rows_by rows_after work_by work_after after_call
refused b s x w f e =
    record { answer = rw e; result = rw e; rows = rw e; work = rw e; fixed = (sym blank-row, blank-stage); written = λ z. absurd (some-none (sym e ∙ z)) }
