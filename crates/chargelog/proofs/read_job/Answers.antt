use Rattle.std.proofs.Common.{◌-◌, rules, length, sym, subst}
use Rattle.std.specs.Io.KnownBytes.{Consumes}
use Rattle.std.proofs.KnownBytes.{Consumes-trans}
use Rattle.chargelog.proofs.Laws.{take_read, ok_told}
use Rattle.chargelog.proofs.read_job.Goals as goal

pub loop-n-preserved : goal.loop-n-preserved
loop-n-preserved g c =
    let held = c.loop-n.invariant in
    let told = ok_told c.read.result c.map_err.result c.in_ok-more.more (λ y e. rw e at c.map_err.ensures.cases) c.map_err.ensures.variant c.in_ok-more.was in
    let bound = rw (told) at c.read.ensures.bound in
    let bytes = rw (told) at c.read.ensures.bytes in
    let room = length c.loop-n.job - c.loop-n.n in
    let front = take_read c.loop-n.n room c.in_ok-more.more c.loop-n.job c.read.new.buf held.0 bound.0 in
    (search rules, subst (Consumes _ _) (sym front) (Consumes-trans _ _ _ _ _ held.1 bytes.0))
