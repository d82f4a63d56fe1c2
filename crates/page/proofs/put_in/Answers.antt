-- The record goes in front of those that have moved up.
use Rattle.std.proofs.Common.{◌∙◌, rules}
use Rattle.spec.specs.Bytes.{byte}
use Rattle.page.specs.PutLaws.{put_bytes}
use Rattle.page.proofs.put_in.Goals as goal

pub returns : goal.returns
unfolding byte
returns c =
    let i = c.place_of-i in
    c.put_rec.ensures
    ∙ rw c.move_up.ensures
    (put_bytes c.args.page.now c.args.r i.result c.args.n (λ k. search rules) i.ensures.0 i.ensures.1)
