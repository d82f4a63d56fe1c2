use mathlib.Core.Path.{refl, sym, ◌∙◌}
use mathlib.Core.Bool.{Bool}
use mathlib.Core.List.{List, []}
use Prim.Native.Nat.{ℕ}
use borrow.Author.Tests.{tests}
use native.Mathlib.Omega.{arith}
use lib.ListN.{get_or}
use Rattle.std.proofs.Common.{rules}
use Rattle.std.proofs.lemmas.Iterator.{YieldsList-from_range}
use Rattle.std.proofs.lemmas.Iterator.Search.{find_from_yields_List}
use lib.Dec.{leb}
use Rattle.spec.specs.Job.{turn_place}
use Rattle.spec.specs.Decode.{header_of, turn_parts, number_of, job_of}
use Rattle.spec.specs.Check.{turn_fault, wrong_turn}
use Rattle.header.specs.Sections.{turns-count, numbers_at}
use Rattle.job.proofs.Found.{as_found, found, found_below}
use Rattle.job.proofs.work.wrong_turn.Goals as goal

abbrev turns : List ℕ → List (List ℕ)
turns b = turn_parts (header_of b) b

abbrev bad : List ℕ → ℕ → ℕ → Bool
bad b m t = leb m (get_or (job_of b).turns t 0)

pub returns-in_err-t : goal.returns-in_err-t
unfolding wrong_turn turn_fault job_of
returns-in_err-t c =
    let e = as_found (find_from_yields_List (bad c.args.reader.job.now c.args.reader.header.ops) _ _ c.find.result c.find.ensures.ran (YieldsList-from_range 0 c.args.reader.header.turns c.args.reader.header.turns refl (omega arith)) (λ x b q k. search (rules, tests))) in
    rw c.from_residual.ensures
    (rw (sym e ∙ c.in_err-t.was) at (found (λ t u. leb (header_of c.args.reader.job.now).ops (number_of u)) [] (turn_place (header_of c.args.reader.job.now)) (bad c.args.reader.job.now c.args.reader.header.ops) (turns c.args.reader.job.now) _ (turns-count c.args.reader.heads) (λ j l. rw (numbers_at (turns c.args.reader.job.now) j, ← c.args.reader.heads.counts))))

pub turn_place-requires : goal.turn_place-requires
turn_place-requires c =
    let e = as_found (find_from_yields_List (bad c.args.reader.job.now c.args.reader.header.ops) _ _ c.find.result c.find.ensures.ran (YieldsList-from_range 0 c.args.reader.header.turns c.args.reader.header.turns refl (omega arith)) (λ x b q k. search (rules, tests))) in
    (c.args.reader.heads.limits, omega (arith, found_below (bad c.args.reader.job.now c.args.reader.header.ops) 0 c.args.reader.header.turns c.in_ok-t.t (sym c.in_ok-t.was ∙ e)))

pub returns : goal.returns
unfolding wrong_turn turn_fault job_of
returns c =
    let e = as_found (find_from_yields_List (bad c.args.reader.job.now c.args.reader.header.ops) _ _ c.find.result c.find.ensures.ran (YieldsList-from_range 0 c.args.reader.header.turns c.args.reader.header.turns refl (omega arith)) (λ x b q k. search (rules, tests))) in
    rw (c.turn_place.ensures.0, c.args.reader.heads.counts)
    (rw (sym e ∙ c.in_ok-t.was) at (found (λ t u. leb (header_of c.args.reader.job.now).ops (number_of u)) [] (turn_place (header_of c.args.reader.job.now)) (bad c.args.reader.job.now c.args.reader.header.ops) (turns c.args.reader.job.now) _ (turns-count c.args.reader.heads) (λ j l. rw (numbers_at (turns c.args.reader.job.now) j, ← c.args.reader.heads.counts))))
