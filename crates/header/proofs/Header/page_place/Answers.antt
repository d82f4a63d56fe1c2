use Prim.Native.Nat.{◌*◌, ◌-◌, ◌≤◌}
use native.Mathlib.Omega.{arith}
use Rattle.header.proofs.Sizes.{table-most}
use Rattle.spec.specs.Job.{page_place}
use Rattle.header.proofs.Header.page_place.Goals as goal

pub returns : goal.returns
unfolding page_place
returns c =
    let p = c.requires in
    -- what stands before page x is at most as long as all pages
    let fits : c.page_size.result * (c.args.x - 1) ≤ 17408 = table-most _ _ c.page_size.ensures.1 (omega (arith, p.2, p.0.pages.1)) in
    (cc, omega (arith, fits))
