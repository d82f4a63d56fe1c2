use Rattle.std.proofs.Common.{rules}
use Rattle.spec.specs.Decode.{page_of}
use Rattle.page.proofs.depth.Goals as goal

pub returns : goal.returns
unfolding page_of
returns c = search rules
