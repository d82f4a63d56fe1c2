-- `ChargeFile::put_page` meets its contract: where the page that entry j names has depth l, it is the page that is asked for, and its bytes are copied.
use mathlib.Core.Path.{sym, ◌∙◌}
use Rattle.tidy.proofs.Gather.{under_first, under_own}
use Rattle.tidy.proofs.file.ChargeFile.put_page.Goals as goal

pub returns-then-depth-l : goal.returns-then-depth-l
returns-then-depth-l c =
    let q = c.requires in
    let e = c.args.self.now.given in
    c.copy.ensures
    ∙ under_own e c.args.j c.args.l c.args.out.now (under_first e c.args.j c.args.l q.within) c.page_on-page.ensures (sym c.depth.ensures.0 ∙ c.if-depth-l.true) q.size
