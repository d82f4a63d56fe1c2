use mathlib.Core.Path.{refl, sym, ◌∙◌}
use mathlib.Core.Bool.{Bool}
use mathlib.Core.List.{List, []}
use Prim.Native.Nat.{ℕ}
use borrow.Author.Tests.{tests}
use native.Mathlib.Omega.{arith}
use lib.ListN.{get_or}
use Rattle.std.proofs.Common.{rules}
use Rattle.std.proofs.lemmas.Iterator.{YieldsList-from_range}
use Rattle.std.proofs.lemmas.Iterator.Search.{find_from_yields_List}
use Rattle.spec.specs.Job.{op_place}
use Rattle.spec.specs.Decode.{header_of, op_parts}
use Rattle.spec.specs.Check.{bad_op, op_fault, wrong_op}
use Rattle.header.specs.Sections.{ops-count}
use Rattle.job.proofs.Found.{as_found, found, found_below}
use Rattle.job.proofs.work.wrong_op.Goals as goal

abbrev ops : List ℕ → List (List ℕ)
ops b = op_parts (header_of b) b

abbrev bad : List ℕ → ℕ → Bool
bad b i = bad_op (get_or (ops b) i [])

pub returns-in_err-i : goal.returns-in_err-i
unfolding wrong_op op_fault
returns-in_err-i c =
    let e = as_found (find_from_yields_List (bad c.args.reader.job.now) _ _ c.find.result c.find.ensures.ran (YieldsList-from_range 0 c.args.reader.header.ops c.args.reader.header.ops refl (omega arith)) (λ x b q k. search (rules, tests))) in
    rw c.from_residual.ensures
    (rw (sym e ∙ c.in_err-i.was) at (found (λ i o. bad_op o) [] (op_place (header_of c.args.reader.job.now)) (bad c.args.reader.job.now) (ops c.args.reader.job.now) _ (ops-count c.args.reader.heads) (λ j l. refl)))

pub op_place-requires : goal.op_place-requires
op_place-requires c =
    let e = as_found (find_from_yields_List (bad c.args.reader.job.now) _ _ c.find.result c.find.ensures.ran (YieldsList-from_range 0 c.args.reader.header.ops c.args.reader.header.ops refl (omega arith)) (λ x b q k. search (rules, tests))) in
    (c.args.reader.heads.limits, omega (arith, found_below (bad c.args.reader.job.now) 0 c.args.reader.header.ops c.in_ok-i.i (sym c.in_ok-i.was ∙ e)))

pub returns : goal.returns
unfolding wrong_op op_fault
returns c =
    let e = as_found (find_from_yields_List (bad c.args.reader.job.now) _ _ c.find.result c.find.ensures.ran (YieldsList-from_range 0 c.args.reader.header.ops c.args.reader.header.ops refl (omega arith)) (λ x b q k. search (rules, tests))) in
    rw (c.op_place.ensures.0, c.args.reader.heads.counts)
    (rw (sym e ∙ c.in_ok-i.was) at (found (λ i o. bad_op o) [] (op_place (header_of c.args.reader.job.now)) (bad c.args.reader.job.now) (ops c.args.reader.job.now) _ (ops-count c.args.reader.heads) (λ j l. refl)))
