use Rattle.std.proofs.Common.{◌∙◌, ap}
use Rattle.wire.specs.Over.{over}
use Rattle.wire.specs.Low.{low, low_two, each_four}
use Rattle.wire.proofs.put_four_u16.Goals as goal

pub returns : goal.returns
returns c =
    let a = c.args in
    c.put_all.ensures
    ∙ ap (over a.s.now a.at) (each_four (low 2) a.a a.b a.c a.d ∙ rw (low_two a.a, low_two a.b, low_two a.c, low_two a.d))
