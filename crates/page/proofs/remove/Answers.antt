use Rattle.std.proofs.Common.{arith, rules}
use Rattle.spec.specs.File.{is_not, without}
use Rattle.spec.specs.Turn.{cleared}
use Rattle.page.specs.KeepLaws.{kept-few, kept-length, kept_image}
use Rattle.page.proofs.remove.Goals as goal

pub close-requires : goal.close-requires
unfolding is_not
close-requires c =
    let k = c.keep-n.ensures (is_not c.args.call) (λ r b t. search rules) in
    let few = kept-few k in
    let long = kept-length k in
    omega arith

pub returns : goal.returns
unfolding is_not cleared without
returns c =
    let k = c.keep-n.ensures (is_not c.args.call) (λ r b t. search rules) in
    cc (kept_image k c.requires c.depth-d.result c.pattern-p.result)
