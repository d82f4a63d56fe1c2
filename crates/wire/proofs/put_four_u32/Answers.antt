use Rattle.std.proofs.Common.{◌∙◌, ap}
use Rattle.wire.specs.Over.{over}
use Rattle.wire.specs.Low.{low, low_four, each_four}
use Rattle.wire.proofs.put_four_u32.Goals as goal

pub returns : goal.returns
returns c =
    let a = c.args in
    c.put_all.ensures
    ∙ ap (over a.s.now a.at) (each_four (low 4) a.a a.b a.c a.d ∙ rw (low_four a.a, low_four a.b, low_four a.c, low_four a.d))
