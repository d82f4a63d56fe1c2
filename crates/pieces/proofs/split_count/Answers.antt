-- By the shared bits and the page's depth.
use Rattle.std.proofs.Common.{arith}
use Rattle.spec.specs.Split.{split_count}
use Rattle.pieces.proofs.split_count.Goals as goal

pub returns : goal.returns
unfolding split_count
returns c = omega arith
