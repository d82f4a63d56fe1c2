use mathlib.Core.Path.{◌≡◌}
use native.Mathlib.Omega.{arith}
use Rattle.spec.specs.Bytes.{byte, word}
use Rattle.spec.specs.Decode.{page_of}
use Rattle.spec.specs.Key.{begins}
use Rattle.job.specs.Owner.{stray}
use Rattle.job.proofs.Pages.{PageIs, page_is, page-depth, entry-is}
use Rattle.job.proofs.Foreign.{owns_is}
use Rattle.job.proofs.owner.is_stray.Goals as goal

pub page-page-requires : goal.page-page-requires
page-page-requires c =
    let p = c.args.pages.paged in
    let n = entry-is p _ _ c.requires c.entry.ensures.0 in
    (n.1, omega (arith, n.2, p.heads.limits.used.1))

pub overflow_sub-shift : goal.overflow_sub-shift
unfolding page_of
overflow_sub-shift c =
    let p = c.args.pages.paged in
    let n = entry-is p _ _ c.requires c.entry.ensures.0 in
    let there : PageIs c.args.pages.reader.job.now c.entry.result c.page-page.result.now =
    page_is p _ _ n.1 (omega (arith, n.2, p.heads.limits.used.1)) c.page-page.ensures.0 in
    let e : c.depth.result ≡ byte c.page-page.result.now 0 = c.depth.ensures.0 in
    omega (arith, page-depth p _ _ (there), e)

pub returns : goal.returns
unfolding stray begins page_of
returns c =
    let p = c.args.pages.paged in
    let n = entry-is p _ _ c.requires c.entry.ensures.0 in
    let there : PageIs c.args.pages.reader.job.now c.entry.result c.page-page.result.now =
    page_is p _ _ n.1 (omega (arith, n.2, p.heads.limits.used.1)) c.page-page.ensures.0 in
    let d : c.depth.result ≡ byte c.page-page.result.now 0 = c.depth.ensures.0 in
    let w : c.pattern.result ≡ word c.page-page.result.now 2 = c.pattern.ensures.0 in
    rw (← n.0, owns_is p _ _ _ (there), ← d, ← w)
