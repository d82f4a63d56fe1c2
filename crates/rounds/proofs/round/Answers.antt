-- `rounds::round` meets its contract: each pass is one operation more.
use Rattle.std.proofs.Common.{◌≡◌, arith, ap, sym, ◌∙◌}
use Rattle.rounds.specs.OnTable.{dealing, give_to}
use Rattle.rounds.proofs.Passing.{none_given, one_more}
use Rattle.rounds.proofs.round.Goals as goal

pub loop-i-init : goal.loop-i-init
loop-i-init c = sym (none_given _ _ _)

pub give-n-requires : goal.give-n-requires
give-n-requires c = rw c.loop-i.invariant (c.requires c.loop-i.i c.loop-i-test.true)

pub loop-i-preserved : goal.loop-i-preserved
loop-i-preserved c =
    let a = c.args in
    let l = c.loop-i in
    let u = dealing a.rows.now a.out.now a.work.now a.t in
    c.give-n.ensures ∙ ap (give_to a.reader.header a.reader.job.now l.i) l.invariant ∙ one_more a.reader.header a.reader.job.now l.i u

pub returns : goal.returns
returns c = let all : c.loop-i.i ≡ c.args.reader.header.ops = omega arith in rw all at c.loop-i.invariant
