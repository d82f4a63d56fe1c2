use Rattle.std.proofs.Common.{◌∙◌, arith, rules}
use Rattle.spec.specs.Bytes.{byte}
use Rattle.page.specs.PutLaws.{moved_up}
use Rattle.page.proofs.move_up.Goals as goal

pub returns : goal.returns
unfolding byte
returns c = c.copy_within.ensures.after ∙ moved_up c.args.page.now c.args.i c.args.n (λ k. search rules) (omega arith) (omega arith)
