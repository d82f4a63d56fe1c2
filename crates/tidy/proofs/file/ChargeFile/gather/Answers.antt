-- `ChargeFile::gather` meets its contract: the records before entry j are in, and the page that entry j names comes next.
use native.Mathlib.Omega.{arith}
use Rattle.spec.specs.Decode.{file_of}
use Rattle.tidy.proofs.Known.{shown_depth}
use Rattle.tidy.proofs.Gather.{gathers_none, gathers_length, gathers_all, step_room, step-more}
use Rattle.tidy.proofs.file.ChargeFile.gather.Goals as goal

pub loop-j-init : goal.loop-j-init
loop-j-init c =
    let a = c.args in
    gathers_none (file_of a.self.now.reader.job.now) a.from a.to a.out.now

pub put_all-n-requires-clause-room : goal.put_all-n-requires-clause-room
put_all-n-requires-clause-room c = step_room c.args.self.now.given c.loop-j.invariant (omega arith) c.page_on-page.ensures c.requires.size c.requires.few

pub run-j-requires : goal.run-j-requires
run-j-requires c = omega (arith, c.depth.ensures.0, shown_depth c.page_on-page.result.now, c.page_on-page.ensures.deep)

pub loop-j-preserved : goal.loop-j-preserved
loop-j-preserved c =
    let e = c.args.self.now.given in
    let l = c.loop-j in
    let put = c.put_all-n in
    let there = c.page_on-page.ensures in
    let room = step_room e l.invariant (omega arith) there c.requires.size c.requires.few in
    step-more e l.invariant (omega arith) there _ _ _ (omega (arith, room, gathers_length l.invariant)) put.ensures.records put.ensures.count
    (rw c.depth.ensures.0 at c.run-j.ensures.is)

pub returns : goal.returns
returns c =
    let all = gathers_all c.loop-j.invariant (omega arith) in
    record { count = all.0; records = all.1 }
