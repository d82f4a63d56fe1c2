use native.Mathlib.Omega.{arith}
use Rattle.tidy.proofs.Known.{entry-names, page_shown}
use Rattle.tidy.proofs.file.ChargeFile.page_on.Goals as goal

pub page-requires : goal.page-requires
page-requires c =
    let e = c.args.self.now.given in
    let n = entry-names e _ _ c.requires c.entry.ensures.0 in
    (n.1, omega (arith, n.2, e.heads.limits.used.1))

pub returns : goal.returns
returns c = page_shown c.args.self.now.given _ _ _ c.requires c.entry.ensures.0 c.page.ensures.0 c.page.ensures.1
