use mathlib.Core.Path.{◌≡◌}
use Rattle.std.proofs.Common.{rules}
use Rattle.std.specs.Prelude.{sum}
use Rattle.job.proofs.Zeros.{zeros_sum}
use Rattle.job.proofs.table.is_zero.Goals as goal

pub returns : goal.returns
returns c =
    let e : c.sum-sum.result ≡ sum c.args.bytes.now = search rules in
    rw e (zeros_sum c.args.bytes.now)
