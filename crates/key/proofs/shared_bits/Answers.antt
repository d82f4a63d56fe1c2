-- Leading zeros of the exclusive-or.
use Rattle.laws.specs.Turns.Shared.{shared_top}
use Rattle.key.specs.Shared.{leading_shared}
use Rattle.key.proofs.shared_bits.Goals as goal

pub returns : goal.returns
returns c =
    let same = leading_shared c.args.a c.args.b in
    (same, rw same (shared_top 32 c.args.a c.args.b))
