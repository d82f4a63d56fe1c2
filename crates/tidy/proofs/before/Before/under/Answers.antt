-- `Before::under` meets its contract: the records before the pattern's last entry, less those before its first.
use native.Mathlib.Omega.{arith}
use Rattle.tidy.proofs.Counting.{block-few, climbs, under-is}
use Rattle.tidy.proofs.before.Before.under.Goals as goal

pub bounds-self-to : goal.bounds-self-to
bounds-self-to c =
    let s = c.args.self.now in
    omega (arith, block-few s.file.given s.counts.now s.counted c.args.l c.args.j _ c.run-run.ensures.is c.requires.depth c.requires.entry)

pub overflow_sub-result : goal.overflow_sub-result
overflow_sub-result c =
    let s = c.args.self.now in
    climbs s.file.given s.counts.now s.counted c.args.l c.args.j _ c.run-run.ensures.is c.requires.depth c.requires.entry

pub returns : goal.returns
returns c =
    let s = c.args.self.now in
    under-is s.file.given s.counts.now s.counted c.args.l c.args.j _ c.run-run.ensures.is c.requires.depth c.requires.entry
