use Rattle.std.proofs.Common.{◌∙◌, ap}
use Rattle.wire.specs.Over.{over}
use Rattle.wire.specs.Low.{low_two}
use Rattle.wire.proofs.put_u16.Goals as goal

pub returns : goal.returns
returns c = c.put.ensures ∙ ap (over c.args.s.now c.args.at) (low_two c.args.v)
