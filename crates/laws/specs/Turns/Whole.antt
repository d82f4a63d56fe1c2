-- What the theorem needs of every state of a run whose file is proper; and that an answer, once given, stays to the end.
use Rattle.std.specs.Prelude.{ℕ, zero, suc, ◌+◌, ◌-◌, ◌≤◌, ◌≡◌, refl, length, get_or}
use Rattle.std.proofs.Common.{sym, ap, ◌∙◌, arith}
use Rattle.std.proofs.lemmas.List.{length-replicate}
use Rattle.spec.specs.Key.{index}
use Rattle.spec.specs.File.{File, page_at, entry_at}
use Rattle.spec.specs.Job.{Job, no_op}
use Rattle.spec.specs.Code.{not_yet}
use Rattle.spec.specs.State.{State, blank}
use Rattle.spec.specs.Run.{row_of, stage_of, step, start, run}
use Rattle.spec.specs.Proper.{In, PageNo, PageOk, FileOk}
use Rattle.spec.specs.Claims.{state_at}
use Rattle.laws.specs.Codec.InUse.{any_page}
use Rattle.laws.specs.Turns.Prefix.{fit_32, index_in, begins_in, in_begins}
use Rattle.laws.specs.Turns.Pages.{empty_ok}
use Rattle.laws.specs.Turns.Rows.{first_row_lem}
use Rattle.laws.specs.Turns.Good.{Good}
use Rattle.laws.specs.Turns.Legal.{step_good}
use Rattle.laws.specs.Turns.Progress.{start_good}
use Rattle.laws.specs.Turns.Work.{Work}
use Rattle.laws.specs.Turns.Lookup.{lookup}
use Rattle.laws.specs.Turns.Does.{Coherent}
use Rattle.laws.specs.Turns.Coherent.{step_coherent}
use Rattle.laws.specs.Turns.Codes.{Codes, Kept, step_codes, step_kept, start_codes}
use Rattle.laws.specs.Turns.Owned.{Owned}
use Rattle.laws.specs.Turns.Settled.{Settled, step_settled, start_settled}
use Rattle.laws.specs.Turns.History.{Past, step_past, start-past}
use Rattle.laws.specs.Turns.Account.{Account, step_account}
use Rattle.laws.specs.Turns.States.{hist, who, first_turn, first_le, state_at-suc, state_at_end, step-rows, state_at-zero, state_at_now}

-- what holds of every state of a run
pub record Whole (j : Job) (s : State) : Type 0 where
  pub good : Good j.ops s
  pub coherent : Coherent j.ops s
  pub past : Past (hist j) (who j) (first_turn j.turns) j.ops s
  pub codes : Codes j.ops s
  pub account : Account (hist j) j.ops s
  pub rows : length s.rows ≡ length j.ops
  pub settled : Settled j.ops s

-- a proper file: all its pages, in use or not; its entries, by calls
pub pages_of : (f : File) → FileOk f → (x : ℕ) → PageOk f.g f.c (page_at f x)
pages_of f ok = any_page f (PageOk f.g f.c) ok (empty_ok f.g f.c) ok.pages

home_of : (f : File) → FileOk f → (k : ℕ) → In (page_at f (entry_at f (index f.g k))) k
home_of f ok k =
    let x = entry_at f (index f.g k) in
    begins_in f.g (page_at f x) k (pages_of f ok x).deep (fit_32 f ok.fit) (ok.names _ (index_in f ok.fit k))

owned_of : (f : File) → FileOk f → (x : ℕ) → PageNo f x → Owned f x
owned_of f ok x p k i =
    ok.owner _ x (index_in f ok.fit k) p (in_begins f.g (page_at f x) k (pages_of f ok x).deep (fit_32 f ok.fit) i)

pub start-whole : (j : Job) → FileOk j.file → Whole j (start j.file (length j.ops))
unfolding start stage_of row_of
start-whole j ok =
    record {
      good = start_good j.ops j.file (length j.ops) ok.fit;
      coherent =
          record {
            pages = pages_of j.file ok;
            home = home_of j.file ok;
            work = λ i. first_row_lem (λ r. Work j.file (get_or j.ops i no_op) r.stage) tt tt (length j.ops) i;
          };
      past = start-past (hist j) (who j) (first_turn j.turns) j.ops j.file (length j.ops);
      codes = start_codes j.ops j.file (length j.ops);
      account = record { cause = λ t k l. absurd (omega arith) };
      rows = length-replicate (length j.ops) blank;
      settled = start_settled j.ops j.file (length j.ops) (owned_of j.file ok) ok.unused;
    }

pub whole : (j : Job) → FileOk j.file → (t : ℕ) → t ≤ length j.turns → Whole j (state_at j t)
whole j ok zero l = rw (state_at-zero j) (start-whole j ok)
whole j ok (suc t) l =
    let w = whole j ok t (omega arith) in
    let s = state_at j t in
    let e = state_at-suc j t l in
    let n = state_at_now j t (omega arith) in
    let before : (k : ℕ) → hist j s.now k ≡ lookup s.file k = λ k. ap (λ i. hist j i k) n in
    let after : (k : ℕ) → hist j (suc s.now) k ≡ lookup (step j.ops s (who j t)).file k
    = λ k. ap (λ i. hist j (suc i) k) n ∙ ap (λ (z : State). lookup z.file k) e in
    rw e
    (record {
      good = step_good j.ops s (who j t) w.good;
      coherent = step_coherent j.ops s (who j t) w.good w.coherent;
      past =
          step_past (hist j) (who j) (first_turn j.turns) j.ops s (who j t) before after
          (ap (who j) n)
          (let b = first_le j.turns (who j t) t l refl in omega arith)
          w.good
          w.coherent
          w.past;
      codes = step_codes j.ops s (who j t) w.good w.coherent w.codes;
      account = step_account (hist j) j.ops s (who j t) before w.account after w.good w.coherent w.codes;
      rows = step-rows j.ops s (who j t) ∙ w.rows;
      settled = step_settled j.ops s (who j t) w.good w.coherent w.settled;
    })

pub end_whole : (j : Job) → FileOk j.file → Whole j (run j)
end_whole j ok = rw (← state_at_end j) (whole j ok (length j.turns) (omega arith))

-- an answer that was given stays, to the end
pub kept_on
    : (j : Job) (ok : FileOk j.file) (i t d : ℕ)
    → t + d ≤ length j.turns
    → ((row_of (state_at j t) i).code ≡ not_yet → ⊥)
    → Kept (row_of (state_at j (t + d)) i) (row_of (state_at j t) i)
kept_on j ok i t zero l n = let e : t + zero ≡ t = omega arith in rw e (refl, refl)
kept_on j ok i t (suc d) l n =
    let ih = kept_on j ok i t d (omega arith) n in
    let w = whole j ok (t + d) (omega arith) in
    let e : t + suc d ≡ suc (t + d) = omega arith in
    let k = step_kept j.ops _ (who j (t + d)) w.good w.coherent w.codes i (λ z. n (sym ih.0 ∙ z)) in
    rw (e, state_at-suc j (t + d) (omega arith)) (k.0 ∙ ih.0, k.1 ∙ ih.1)

pub kept_end
    : (j : Job) (ok : FileOk j.file) (i t : ℕ)
    → t ≤ length j.turns
    → ((row_of (state_at j t) i).code ≡ not_yet → ⊥)
    → Kept (row_of (run j) i) (row_of (state_at j t) i)
kept_end j ok i t l n =
    let e : t + (length j.turns - t) ≡ length j.turns = omega arith in
    rw (e, state_at_end j) at (kept_on j ok i t (length j.turns - t) (omega arith) n)
