use Rattle.std.proofs.Common.{sym, ◌∙◌}
use Rattle.laws.specs.Codec.Pages.{records-count}
use Rattle.page.proofs.count.Goals as goal

pub returns : goal.returns
returns c =
    let e = c.u8_at.ensures in
    (e.0 ∙ sym (records-count c.args.page.now), e.0, e.1)
