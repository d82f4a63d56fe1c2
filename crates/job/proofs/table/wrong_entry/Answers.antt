use mathlib.Core.Path.{refl, sym, ◌∙◌}
use mathlib.Core.Bool.{Bool}
use mathlib.Core.List.{List}
use Prim.Native.Nat.{ℕ}
use borrow.Author.Tests.{tests}
use native.Mathlib.Omega.{arith}
use lib.ListN.{get_or}
use Rattle.std.proofs.Common.{rules}
use Rattle.std.proofs.lemmas.Iterator.{YieldsList-from_range}
use Rattle.std.proofs.lemmas.Iterator.Search.{find_from_yields_List}
use Rattle.spec.specs.Job.{entry_place}
use Rattle.spec.specs.Decode.{file_of, job_of}
use Rattle.spec.specs.Check.{outside, entry_fault, wrong_entry}
use Rattle.header.specs.Sections.{entries-count}
use Rattle.job.proofs.Found.{as_found, found, found_below}
use Rattle.job.proofs.table.wrong_entry.Goals as goal

abbrev entries : List ℕ → List ℕ
entries b = (job_of b).file.directory

abbrev bad : List ℕ → ℕ → ℕ → Bool
bad b used j = outside 1 used (get_or (entries b) j 0)

pub returns-in_err-j : goal.returns-in_err-j
unfolding wrong_entry entry_fault job_of file_of entry_place
returns-in_err-j c =
    let e = as_found (find_from_yields_List (bad c.args.reader.job.now c.args.reader.header.used) _ _ c.find.result c.find.ensures.ran (YieldsList-from_range 0 c.entries.result c.entries.result refl (omega arith)) (λ x b q k. search (rules, tests))) in
    rw c.from_residual.ensures
    (rw (sym e ∙ c.in_err-j.was) at (found (λ j x. outside 1 (job_of c.args.reader.job.now).file.used x) 0 entry_place (bad c.args.reader.job.now c.args.reader.header.used) (entries c.args.reader.job.now) _ (entries-count c.args.reader.heads ∙ sym c.entries.ensures.0) (λ j l. rw (← c.args.reader.heads.counts))))

pub overflow_mul-result : goal.overflow_mul-result
overflow_mul-result c =
    let e = as_found (find_from_yields_List (bad c.args.reader.job.now c.args.reader.header.used) _ _ c.find.result c.find.ensures.ran (YieldsList-from_range 0 c.entries.result c.entries.result refl (omega arith)) (λ x b q k. search (rules, tests))) in
    let l = found_below (bad c.args.reader.job.now c.args.reader.header.used) 0 c.entries.result c.in_ok-j.j (sym c.in_ok-j.was ∙ e) in
    omega (arith, l, c.entries.ensures.1)

pub overflow_add-result : goal.overflow_add-result
overflow_add-result c =
    let e = as_found (find_from_yields_List (bad c.args.reader.job.now c.args.reader.header.used) _ _ c.find.result c.find.ensures.ran (YieldsList-from_range 0 c.entries.result c.entries.result refl (omega arith)) (λ x b q k. search (rules, tests))) in
    let l = found_below (bad c.args.reader.job.now c.args.reader.header.used) 0 c.entries.result c.in_ok-j.j (sym c.in_ok-j.was ∙ e) in
    omega (arith, l, c.entries.ensures.1)

pub returns : goal.returns
unfolding wrong_entry entry_fault job_of file_of entry_place
returns c =
    let e = as_found (find_from_yields_List (bad c.args.reader.job.now c.args.reader.header.used) _ _ c.find.result c.find.ensures.ran (YieldsList-from_range 0 c.entries.result c.entries.result refl (omega arith)) (λ x b q k. search (rules, tests))) in
    (rw (sym e ∙ c.in_ok-j.was) at (found (λ j x. outside 1 (job_of c.args.reader.job.now).file.used x) 0 entry_place (bad c.args.reader.job.now c.args.reader.header.used) (entries c.args.reader.job.now) _ (entries-count c.args.reader.heads ∙ sym c.entries.ensures.0) (λ j l. rw (← c.args.reader.heads.counts))))
