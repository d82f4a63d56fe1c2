-- Zeros, then the head.
use Rattle.page.specs.Image.{closed}
use Rattle.page.specs.ImageLaws.{over_head}
use Rattle.page.proofs.close.Goals as goal

pub returns : goal.returns
unfolding closed
returns c =
    let a = c.args in
    cc (over_head c.clear.new.s a.depth a.n a.pattern)
