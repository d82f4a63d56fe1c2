use mathlib.Core.Path.{◌≡◌, sym, ◌∙◌}
use mathlib.Core.List.{List}
use Prim.Native.Nat.{ℕ, ◌+◌, ◌<◌}
use native.Mathlib.Omega.{arith}
use native.Mathlib.Numerals.{add-one}
use lib.ListN.{get_or}
use Rattle.spec.specs.Basics.{first_of}
use Rattle.spec.specs.File.{zero_page}
use Rattle.spec.specs.Job.{page_place}
use Rattle.spec.specs.Decode.{page_of}
use Rattle.spec.specs.Check.{record_fault, record_fault_in, wrong_record}
use Rattle.laws.specs.Codec.Walk.{first_from_1}
use Rattle.header.specs.declared.Header.{Header}
use Rattle.header.specs.Counts.{counts_of}
use Rattle.job.specs.Owner.{Paged}
use Rattle.laws.specs.Codec.Passed.{passed_more, passed_hit, passed_all}
use Rattle.job.proofs.Pages.{PageIs, page_is, page-small, in_use, in_use_at}
use Rattle.job.proofs.records.wrong_record.Invariants.{fault, pages}
use Rattle.job.proofs.records.wrong_record.Goals as goal

-- what the code looks for in page k + 1, which has the bytes s
told
    : {h : Header} {b : List ℕ} (e : Paged h b) (k at : ℕ) (s : List ℕ)
    → k < h.used
    → PageIs b (k + 1) s
    → at ≡ page_place (counts_of h) (k + 1)
    → fault b k (get_or (pages b) k zero_page) ≡ first_of (record_fault at (page_of s)) 0 (page_of s).records
unfolding record_fault_in
told e k at s l p q = rw (in_use_at e k l, ← add-one k, p.is, ← e.heads.counts, ← q)

pub invariant_of-records : goal.invariant_of-records
invariant_of-records c =
    let p = c.args.pages.paged in
    let there : PageIs c.args.pages.reader.job.now (c.loop-k.k + 1) c.page.result.now =
    page_is p _ _ (omega arith) (omega (arith, p.heads.limits.used.1)) c.page.ensures.0 in
    record { small = page-small p _ _ (there) c.page.ensures.1 }

pub returns-in-Some : goal.returns-in-Some
unfolding wrong_record
returns-in-Some c =
    let p = c.args.pages.paged in
    let there : PageIs c.args.pages.reader.job.now (c.loop-k.k + 1) c.page.result.now =
    page_is p _ _ (omega arith) (omega (arith, p.heads.limits.used.1)) c.page.ensures.0 in
    let l = c.loop-k-test.true in
    rw first_from_1
    (passed_hit (fault _) (pages _) zero_page c.loop-k.k _ (rw (in_use p) l) c.loop-k.invariant
    (told p c.loop-k.k _ _ l (there) c.page_place.ensures.0 ∙ sym c.first_bad.ensures ∙ c.in-Some.is))

pub loop-k-preserved : goal.loop-k-preserved
loop-k-preserved c =
    let p = c.args.pages.paged in
    let there : PageIs c.args.pages.reader.job.now (c.loop-k.k + 1) c.page.result.now =
    page_is p _ _ (omega arith) (omega (arith, p.heads.limits.used.1)) c.page.ensures.0 in
    let b = c.args.pages.reader.job.now in
    passed_more (fault b) (pages b) zero_page _ c.loop-k.invariant
    (told p c.loop-k.k _ _ c.loop-k-test.true (there) c.page_place.ensures.0 ∙ sym c.first_bad.ensures ∙ c.in_default.is)

pub returns : goal.returns
unfolding wrong_record
returns c =
    rw first_from_1
    (passed_all (fault _) (pages _) zero_page _ (rw (in_use c.args.pages.paged) c.loop-k-test.false) c.loop-k.invariant)
