use mathlib.Core.Path.{◌≡◌, refl}
use Prim.Native.Nat.{◌+◌, ◌-◌}
use borrow.Author.Tests.{tests}
use native.Mathlib.Omega.{arith}
use Rattle.std.proofs.Common.{rules}
use Rattle.std.proofs.lemmas.Iterator.{YieldsList-from_range}
use Rattle.std.proofs.lemmas.Iterator.Search.{find_from_yields_List}
use Rattle.spec.specs.File.{entry_at}
use Rattle.spec.specs.Decode.{job_of}
use Rattle.job.specs.Owner.{other}
use Rattle.job.proofs.Found.{as_found}
use Rattle.job.proofs.Lowest.{lowest_found}
use Rattle.job.proofs.owner.first_other.Goals as goal

pub returns : goal.returns
unfolding other job_of entry_at
returns c =
    let e = as_found (find_from_yields_List (other c.args.reader.job.now c.args.x) _ _ c.find.result c.find.ensures.ran (YieldsList-from_range c.args.from c.args.to (c.args.to - c.args.from) refl refl) (λ x b q k. search (rules, tests))) in
    let z : c.args.from + (c.args.to - c.args.from) ≡ c.args.to = omega (arith, c.requires.0) in
    rw e (rw z at (lowest_found (other c.args.reader.job.now c.args.x) c.args.from (c.args.to - c.args.from)))
