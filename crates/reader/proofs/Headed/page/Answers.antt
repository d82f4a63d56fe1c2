use Rattle.std.specs.Prelude.{ℕ, ◌≡◌, ◌≤◌, List}
use mathlib.Core.Path.{◌∙◌}
use mathlib.Core.List.{[]}
use Prim.Native.Nat.{◌-◌}
use native.Mathlib.Omega.{arith}
use lib.ListN.{get_or}
use Rattle.spec.specs.Job.{page_place, page_size}
use Rattle.spec.specs.Decode.{header_of, page_parts}
use Rattle.header.specs.declared.Header.{Header}
use Rattle.header.specs.Counts.{counts_of, Heads}
use Rattle.header.specs.Sections.{Part, page_there}
use Rattle.reader.proofs.Headed.page.Goals as goal

-- where the page stands, by the sizes that the code reckons with
at : Header → List ℕ → ℕ → ℕ → ℕ → Type 0
at h job x place size = Part job place size (get_or (page_parts (header_of job) job) (x - 1) [])

there
    : {h : Header} {job : List ℕ} (x : ℕ) {place size : ℕ}
    → Heads h job
    → 1 ≤ x
    → x ≤ h.pages
    → place ≡ page_place (counts_of h) x
    → size ≡ page_size h.capacity
    → at h job x place size
unfolding at
there x q l m e s = rw s (page_there q x _ l m e)

pub slice_bounds-result-end : goal.slice_bounds-result-end
unfolding at
slice_bounds-result-end c =
    let q = c.requires in
    omega (arith, (there c.args.x c.args.self.heads q.0 q.1 c.page_place-at.ensures.0 c.page_size.ensures.0).room)

pub returns : goal.returns
unfolding at
returns c =
    let q = c.requires in
    let p = there c.args.x c.args.self.heads q.0 q.1 c.page_place-at.ensures.0 c.page_size.ensures.0 in
    (p.is, p.size ∙ c.page_size.ensures.0)
