-- `ChargeFile::put_joined` meets its contract: the records of its entries' pages are gathered, and the page is closed.
use mathlib.Core.Path.{◌∙◌}
use native.Mathlib.Omega.{arith}
use Rattle.tidy.proofs.Gather.{under-few, under_closed}
use Rattle.tidy.proofs.file.ChargeFile.put_joined.Goals as goal

pub gather-n-requires-clause-few : goal.gather-n-requires-clause-few
gather-n-requires-clause-few c = under-few c.args.self.now.given c.args.j c.args.l _ c.run-run.ensures.is c.requires.few

pub close-requires : goal.close-requires
close-requires c =
    let e = c.args.self.now.given in
    let q = c.requires in
    let g = c.gather-n in
    let few = under-few e c.args.j c.args.l _ c.run-run.ensures.is q.few in
    (omega (arith, g.ensures.count, g.auto, few, q.size), omega (arith, e.heads.limits.depth, q.deep), omega (arith, g.ensures.count, few, e.heads.limits.capacity.1))

pub returns : goal.returns
returns c =
    let q = c.requires in
    let g = c.gather-n in
    c.close.ensures ∙ under_closed c.args.self.now.given c.args.j c.args.l _ c.run-run.ensures.is c.args.out.now _ _ q.size q.few g.ensures.count g.ensures.records
