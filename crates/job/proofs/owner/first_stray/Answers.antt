use mathlib.Core.Path.{refl}
use borrow.Author.Tests.{tests}
use native.Mathlib.Omega.{arith}
use native.Mathlib.Nat.{zero-add}
use Rattle.std.proofs.Common.{rules}
use Rattle.std.proofs.lemmas.Iterator.{YieldsList-from_range}
use Rattle.std.proofs.lemmas.Iterator.Search.{find_from_yields_List}
use Rattle.job.specs.Owner.{stray}
use Rattle.job.proofs.Found.{as_found}
use Rattle.job.proofs.Lowest.{lowest_found}
use Rattle.job.proofs.owner.first_stray.Goals as goal

pub returns : goal.returns
returns c =
    let e = as_found (find_from_yields_List (stray c.args.pages.reader.job.now) _ _ c.find.result c.find.ensures.ran (YieldsList-from_range 0 c.entries.result c.entries.result refl (omega arith)) (λ x b q k. search (rules, tests))) in
    rw (e, ← c.entries.ensures.0) (rw zero-add at (lowest_found (stray c.args.pages.reader.job.now) 0 c.entries.result))
