-- Where no operation is under way at the end, the file is proper again, and it is the result's charge file: what is written can be read back.
use Rattle.std.specs.Prelude.{ℕ, zero, suc, ◌≤◌, ◌≡◌, refl, List, [], ◌∷◌, true, get_or, Some}
use Rattle.std.proofs.Common.{sym, ◌∙◌, arith, eq-eqb}
use Rattle.std.proofs.lemmas.Bool.{false≢true}
use Rattle.spec.specs.declared.Op.{Op}
use Rattle.spec.specs.declared.Stage.{Stage}
use Rattle.spec.specs.declared.Stage.TheVariants.{NotBegun, ReadPage, Reread, Lock, Held, Split, Done}
use Rattle.spec.specs.Key.{index}
use Rattle.spec.specs.File.{page_at, entry_at}
use Rattle.spec.specs.Job.{Job}
use Rattle.spec.specs.State.{Row, State, gone}
use Rattle.spec.specs.Run.{row_of, stage_of, run}
use Rattle.spec.specs.Encode.{encode_file}
use Rattle.spec.specs.Result.{under_way, count_under, file_left, result_of, result}
use Rattle.spec.specs.Proper.{FileOk}
use Rattle.laws.specs.Tools.{if_case, if-true}
use Rattle.laws.specs.Turns.Prefix.{fit_32, entry-call, begins_in, in_begins}
use Rattle.laws.specs.Turns.Good.{Good}
use Rattle.laws.specs.Turns.Does.{Coherent}
use Rattle.laws.specs.Turns.Owned.{Busy}
use Rattle.laws.specs.Turns.Settled.{Settled}
use Rattle.laws.specs.Turns.Whole.{Whole, end_whole}

busy_under : (st : Stage) (p : ℕ) → Busy st p → under_way st ≡ true
unfolding under_way
busy_under NotBegun p h = absurd h
busy_under (ReadPage x) p h = absurd h
busy_under (Reread x t) p h = absurd h
busy_under (Lock x) p h = absurd h
busy_under (Held x t) p h = refl
busy_under (Split x b n q) p h = refl
busy_under Done p h = absurd h

-- none is under way where their count is 0
count-zero : (rs : List Row) (i : ℕ) → count_under rs ≡ 0 → under_way (get_or rs i gone).stage ≡ true → ⊥
unfolding count_under under_way
count-zero [] i e u = false≢true u
count-zero (r ∷ rs) zero e u = let z = sym (if-true (suc (count_under rs)) (count_under rs) u) ∙ e in omega arith
count-zero (r ∷ rs) (suc i) e u =
    if_case (λ n. n ≡ 0 → ⊥) (λ q z. omega arith) (λ q z. count-zero rs i z u) e

-- a file that is in order, and that no split is changing, is proper
settled_ok
    : (ops : List Op) (s : State)
    → Good ops s
    → Coherent ops s
    → Settled ops s
    → ((i p : ℕ) → Busy (stage_of s i) p → ⊥)
    → FileOk s.file
settled_ok ops s good coherent t n =
    record {
      fit = good.fit;
      pages = λ x p. coherent.pages x;
      names = λ e l.
          let k = entry-call s.file good.fit e l in
          let x = entry_at s.file (index g k.0) in
          rw (← k.1) (in_begins g (page_at s.file x) k.0 (coherent.pages x).deep g32 (coherent.home k.0));
      owner = λ e x l p b.
          let k = entry-call s.file good.fit e l in
          let i = begins_in g (page_at s.file x) k.0 (coherent.pages x).deep g32 (rw (← k.1) at b) in
          rw (← k.1) (t.owner x p (λ j. n j x) k.0 i);
      unused = t.unused;
    }
  where
    g : ℕ
    g = s.file.g

    g32 : g ≤ 32
    g32 = fit_32 s.file good.fit

pub final_ok : (j : Job) → FileOk j.file → (result j).unended ≡ 0 → FileOk (run j).file
unfolding result result_of stage_of row_of
final_ok j ok z = settled_ok j.ops (run j) w.good w.coherent w.settled (λ i p b. count-zero (run j).rows i z (busy_under _ p b))
  where
    w : Whole j (run j)
    w = end_whole j ok

-- and it is the charge file of the result
pub final_file : (j : Job) → (result j).unended ≡ 0 → (result j).file ≡ Some (encode_file (run j).file)
unfolding result result_of file_left
final_file j z = if-true _ _ (eq-eqb _ 0 z)
