use mathlib.Core.Path.{◌≡◌, sym}
use mathlib.Core.List.{List, []}
use Prim.Native.Nat.{ℕ, ◌+◌, ◌-◌}
use native.Mathlib.Omega.{arith}
use native.Mathlib.Numerals.{add-one}
use lib.ListN.{get_or}
use Rattle.std.specs.Prelude.{Option}
use Rattle.std.proofs.lemmas.Result.{err_from_is_err_and}
use Rattle.spec.specs.Decode.{header_of}
use Rattle.spec.specs.Check.{Fault, page_fault, wrong_page}
use Rattle.laws.specs.Codec.Walk.{first_from_1, first-at}
use Rattle.header.specs.Sections.{pages-count}
use Rattle.laws.specs.Codec.Passed.{passed_end}
use Rattle.job.proofs.table.wrong_page.Invariants.{fault, pages}
use Rattle.job.proofs.table.wrong_page.Goals as goal

-- what the code is told of page k + 1
told : (b : List ℕ) (k : ℕ) {o : Option Fault} → o ≡ page_fault (header_of b) (k + 1) (get_or (pages b) (k + 1 - 1) []) → fault b k (get_or (pages b) k []) ≡ o
told b k q = let z : k + 1 - 1 ≡ k = omega arith in sym (rw (z, add-one k) at q)

pub returns-in_err-page_fault : goal.returns-in_err-page_fault
unfolding wrong_page
returns-in_err-page_fault c =
    let p = err_from_is_err_and c.from_residual.result c.from_residual.ensures.1 in
    let e = c.args.reader.heads in
    rw
    (p.1, p.2, first_from_1, first-at (fault _) (pages _) [] c.loop-k.k _ (rw (pages-count e) c.loop-k-test.true) c.loop-k.invariant (told _ c.loop-k.k c.in_err-page_fault.ensures))

pub returns : goal.returns
unfolding wrong_page
returns c =
    rw (first_from_1, passed_end (fault _) (pages _) [] _ (rw (pages-count c.args.reader.heads) c.loop-k-test.false) c.loop-k.invariant)
