use mathlib.Core.Path.{refl, sym, ◌∙◌}
use mathlib.Core.Bool.{Bool}
use mathlib.Core.List.{List}
use Prim.Native.Nat.{ℕ}
use borrow.Author.Tests.{tests}
use native.Mathlib.Omega.{arith}
use lib.ListN.{get_or}
use Rattle.std.proofs.Common.{rules}
use Rattle.std.proofs.lemmas.Iterator.{YieldsList-from_range}
use Rattle.std.proofs.lemmas.Iterator.Search.{find_from_yields_List}
use Rattle.spec.specs.declared.Rec.{Rec}
use Rattle.spec.specs.Job.{record_place}
use Rattle.spec.specs.Decode.{page_of}
use Rattle.spec.specs.Check.{bad_record, record_fault}
use Rattle.spec.specs.File.{no_record}
use Rattle.job.proofs.Found.{as_found, found, found_below}
use Rattle.job.proofs.records.Records.first_bad.Goals as goal

abbrev records : List ℕ → List Rec
records p = (page_of p).records

abbrev bad : List ℕ → ℕ → Bool
bad p i = bad_record (page_of p) i (get_or (records p) i no_record)

pub returns-in_err-i : goal.returns-in_err-i
unfolding record_fault record_place
returns-in_err-i c =
    let e = as_found (find_from_yields_List (bad c.args.self.page.now) _ _ c.find.result c.find.ensures.ran (YieldsList-from_range 0 c.count.result c.count.result refl (omega arith)) (λ x b q k. search (rules, tests))) in
    rw c.from_residual.ensures
    (rw (sym e ∙ c.in_err-i.was) at (found (bad_record (page_of c.args.self.page.now)) no_record (record_place c.args.place) (bad c.args.self.page.now) (records c.args.self.page.now) _ (sym c.count.ensures.0) (λ j l. refl)))

pub overflow_mul-result : goal.overflow_mul-result
overflow_mul-result c =
    let e = as_found (find_from_yields_List (bad c.args.self.page.now) _ _ c.find.result c.find.ensures.ran (YieldsList-from_range 0 c.count.result c.count.result refl (omega arith)) (λ x b q k. search (rules, tests))) in
    let l = found_below (bad c.args.self.page.now) 0 c.count.result c.in_ok-i.i (sym c.in_ok-i.was ∙ e) in
    omega (arith, l, c.args.self.small.count)

pub overflow_add-result-2 : goal.overflow_add-result-2
overflow_add-result-2 c =
    let e = as_found (find_from_yields_List (bad c.args.self.page.now) _ _ c.find.result c.find.ensures.ran (YieldsList-from_range 0 c.count.result c.count.result refl (omega arith)) (λ x b q k. search (rules, tests))) in
    let l = found_below (bad c.args.self.page.now) 0 c.count.result c.in_ok-i.i (sym c.in_ok-i.was ∙ e) in
    omega (arith, l, c.args.self.small.count)

pub returns : goal.returns
unfolding record_fault record_place
returns c =
    let e = as_found (find_from_yields_List (bad c.args.self.page.now) _ _ c.find.result c.find.ensures.ran (YieldsList-from_range 0 c.count.result c.count.result refl (omega arith)) (λ x b q k. search (rules, tests))) in
    (rw (sym e ∙ c.in_ok-i.was) at (found (bad_record (page_of c.args.self.page.now)) no_record (record_place c.args.place) (bad c.args.self.page.now) (records c.args.self.page.now) _ (sym c.count.ensures.0) (λ j l. refl)))
