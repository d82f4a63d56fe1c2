use Rattle.std.proofs.Common.{arith}
use Rattle.std.proofs.lemmas.Result.{on_ok_weaker}
use Rattle.chargelog.proofs.Laws.{answers, on_ok_kept}
use Rattle.chargelog.proofs.print_job.Goals as goal

pub returns-clause-answers : goal.returns-clause-answers
returns-clause-answers g c =
    let known = g.R.Read.remaining c.args.input.now in
    let old = g.W.Write.contents c.args.output.now in
    let new = g.W.Write.contents c.show.new.output in
    let whole = answers known c.read_job.new.job c.in_ok-n.n old new (omega arith) c.in_ok-n.ensures.first in
    on_ok_kept _ c.show.result c.map_err.result c.map_err.ensures.variant (on_ok_weaker c.show.result whole c.show.ensures)
