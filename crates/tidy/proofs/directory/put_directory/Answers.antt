-- `put_directory` meets its contract: the entries of the pages passed are written, and then those of one more.
use mathlib.Core.Path.{sym}
use native.Mathlib.Omega.{arith}
use lib.Pow.{pow_mono}
use Rattle.laws.specs.Tools.{each_at}
use Rattle.laws.specs.Tidy.Starts.{start-zero}
use Rattle.tidy.proofs.Table.{runs_none, run_inside, start-more, runs_next, runs_all}
use Rattle.tidy.proofs.directory.put_directory.Goals as goal

pub loop-k-init : goal.loop-k-init
loop-k-init c = record { at = sym (start-zero c.args.depth c.args.left.now); written = runs_none c.args.depth c.args.left.now c.args.dir.now }

pub overflow_sub-depth : goal.overflow_sub-depth
overflow_sub-depth c = each_at c.args.left.now c.loop-k.k 0 c.loop-k-test.true c.requires.fills.deep

pub put_entries-requires : goal.put_entries-requires
put_entries-requires c =
    omega (arith, c.entries_at-n.ensures.0, run_inside c.args.depth c.args.left.now c.loop-k.k c.loop-k.j c.loop-k-test.true c.loop-k.invariant.at c.requires.fills.total)

pub overflow_add-j : goal.overflow_add-j
overflow_add-j c =
    omega (arith, c.entries_at-n.ensures.0, pow_mono c.requires.depth, run_inside c.args.depth c.args.left.now c.loop-k.k c.loop-k.j c.loop-k-test.true c.loop-k.invariant.at c.requires.fills.total)

pub loop-k-preserved : goal.loop-k-preserved
loop-k-preserved c =
    let l = c.loop-k in
    let g = c.args.depth in
    let ls = c.args.left.now in
    let taken = c.loop-k-test.true in
    record {
      at = rw c.entries_at-n.ensures.0 (start-more g ls l.k l.j taken l.invariant.at);
      written = runs_next g ls c.args.dir.now l.k l.j _ taken l.invariant.at c.entries_at-n.ensures.0 l.invariant.written c.put_entries.ensures;
    }

pub returns : goal.returns
returns c = runs_all c.args.depth c.args.left.now c.args.dir.now c.loop-k.k (omega arith) c.requires.size c.requires.fills.total c.loop-k.invariant.written
