-- One record in its place among the page's own.
use Rattle.std.proofs.Common.{arith}
use Rattle.page.specs.ImageLaws.{added_image}
use Rattle.page.proofs.add.Goals as goal

pub returns : goal.returns
returns c =
    let n = c.count-n in
    cc (added_image c.args.page.now c.args.r n.result c.requires.0 n.ensures.1 (omega arith))
