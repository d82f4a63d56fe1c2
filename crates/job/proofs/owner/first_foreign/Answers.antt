use mathlib.Core.Path.{◌≡◌}
use native.Mathlib.Omega.{arith}
use Rattle.spec.specs.Bytes.{byte}
use Rattle.spec.specs.Decode.{page_of}
use Rattle.job.proofs.Pages.{PageIs, page_is, page-depth}
use Rattle.job.proofs.Foreign.{span}
use Rattle.job.proofs.owner.first_foreign.Goals as goal

pub overflow_sub-run : goal.overflow_sub-run
unfolding page_of
overflow_sub-run c =
    let p = c.args.pages.paged in
    let there : PageIs c.args.pages.reader.job.now c.args.x c.page-page.result.now =
    page_is p _ _ c.requires.0 (omega (arith, c.requires.1, p.heads.limits.used.1)) c.page-page.ensures.0 in
    let e : c.depth.result ≡ byte c.page-page.result.now 0 = c.depth.ensures.0 in
    omega (arith, page-depth p _ _ (there), e)

pub first_other-requires : goal.first_other-requires
unfolding page_of
first_other-requires c =
    let p = c.args.pages.paged in
    let there : PageIs c.args.pages.reader.job.now c.args.x c.page-page.result.now =
    page_is p _ _ c.requires.0 (omega (arith, c.requires.1, p.heads.limits.used.1)) c.page-page.ensures.0 in
    let spans = span p _ _ (there) _ _ c.depth.ensures.0 c.pattern.ensures.0 in
    (spans.order, spans.within)

pub returns : goal.returns
unfolding page_of
returns c =
    let p = c.args.pages.paged in
    let there : PageIs c.args.pages.reader.job.now c.args.x c.page-page.result.now =
    page_is p _ _ c.requires.0 (omega (arith, c.requires.1, p.heads.limits.used.1)) c.page-page.ensures.0 in
    (span p _ _ (there) _ _ c.depth.ensures.0 c.pattern.ensures.0).tells _ c.first_other.ensures
