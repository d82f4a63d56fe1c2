-- Wrong pages: results of jobs worked through, each as it is on paper but for its pages (once, for a moment), with the tests of WeighedPages that fail
-- on it; and that the claim refuses them all.
use Rattle.std.specs.Prelude.{ℕ, ◌≡◌, refl, Bool, not, get_or, set}
use Rattle.std.proofs.Common.{sym, ap, ◌∙◌, arith}
use mathlib.Core.List.{List, [], ◌∷◌, map, tail}
use Rattle.spec.specs.Basics.{if, filter, Each, end, next}
use Rattle.spec.specs.Job.{Job}
use Rattle.spec.specs.Decode.{job_of}
use Rattle.spec.specs.Result.{Told, Line, Result, read_result}
use Rattle.spec.specs.Worked.{job_b, result_b, job_late, result_late, job_c, result_c, job_rising, result_rising, job_rest, result_rest}
use Rattle.spec.specs.Claims.{answer_at, PagesTold}
use Rattle.spec.specs.Opened.{opened}
use Rattle.laws.specs.Tools.{each_imp}
use Rattle.laws.specs.Weighed.{tested}
use Rattle.laws.specs.WeighedPages.{untold, in_use, finds, lacks, holds, decides, names, parts-opened}
use Rattle.laws.specs.RefutesPages.{pages_passes}

-- a result with these answers and this log, and for the rest as it is
abbrev with : Result → List Told → List Line → Result
with r answers log =
    record { version = r.version; unended = r.unended; total = r.total; answers = answers; log = log; file = r.file }

-- page x is told for operation i; line p has another moment
unfoldable tells : Result → ℕ → ℕ → Result
tells r i x =
    let a : Told = answer_at r i in
    with r (set r.answers i (record { code = a.code; page = x; used = a.used; charge = a.charge })) r.log

unfoldable moved : Result → ℕ → Line → Result
moved r p h = with r r.answers (set r.log p h)

-- The fields of the claim, and those whose test fails.
data Field : Type 0 where
  Untold : Field
  InUse : Field
  Finds : Field
  Lacks : Field
  Holds : Field
  Decides : Field
  Names : Field

unfoldable test : Job → Result → Field → Bool
test j r Untold = untold j r
test j r InUse = in_use j r
test j r Finds = finds j r
test j r Lacks = lacks j r
test j r Holds = holds j r
test j r Decides = decides j r
test j r Names = names j r

unfoldable failed : Job → Result → List Field
failed j r = filter (λ f. not (test j r f)) (Untold ∷ InUse ∷ Finds ∷ Lacks ∷ Holds ∷ Decides ∷ Names ∷ [])

-- A wrong result of a job, given as bytes, and the tests that fail: one, and others.
record Wrong : Type 0 where
  job : List ℕ
  told : Result
  fails : Field
  others : List Field

abbrev wrong : List ℕ → Result → Field → List Field → Wrong
wrong b r f fs = record { job = b; told = r; fails = f; others = fs }

abbrev wrongs : List Wrong
wrongs =
    wrong job_late (tells (read_result result_late) 3 1) Untold []  -- a page for code 0: job E's last search only began
    ∷ wrong job_b (tells (read_result result_b) 3 0) InUse (Lacks ∷ [])  -- no page for a search that found none
    ∷ wrong job_b (tells (read_result result_b) 3 3) InUse (Lacks ∷ [])  -- the page behind the last in use for it
    ∷ wrong job_b (tells (read_result result_b) 3 1) Lacks []  -- the old page for it
    ∷ wrong job_b (tells (read_result result_b) 1 2) Finds []  -- the page that the entry names now, for a search that found its call in an older one
    ∷ wrong job_late (tells (read_result result_late) 1 1) Finds []  -- the first page read, for a search that went on
    ∷ wrong job_rising (tells (read_result result_rising) 0 1) Holds (Names ∷ [])  -- the old page for an insert whose call went to a new one
    ∷ wrong job_c (tells (read_result result_c) 0 1) Holds (Names ∷ [])
    ∷ wrong job_c (tells (read_result result_c) 0 3) Holds (Names ∷ [])  -- a new page that it did not go to
    ∷ wrong job_b (moved (read_result result_b) 3 (record { moment = 17; op = 0 })) Holds []  -- a moment one turn before the page has the call
    ∷ wrong job_b (tells (read_result result_b) 2 1) Decides (Names ∷ [])  -- the page that the entry named before, for a delete
    ∷ wrong job_rest (tells (read_result result_rest) 0 1) Decides (Names ∷ [])  -- another page, for an insert whose call is there
    ∷ wrong job_rest (tells (read_result result_rest) 3 1) Decides (Names ∷ [])  -- and for one that got no page
    ∷ wrong job_rest (tells (read_result result_rest) 4 1) Decides (Names ∷ [])  -- and for a delete at another charge
    ∷ wrong job_b (read_result (set (set (set (set result_b 25 1) 33 1) 41 2) 49 2)) InUse  -- the numbers not less one
    (Finds ∷ Lacks ∷ Holds ∷ Decides ∷ Names ∷ [])
    ∷ []

-- WHAT THE TESTS SAY
weighed : map (λ (w : Wrong). failed (job_of w.job) w.told) wrongs ≡ map (λ (w : Wrong). w.fails ∷ w.others) wrongs
unfolding opened tested parts-opened untold in_use finds lacks holds decides names tells moved test failed
weighed = refl

-- THE CLAIM REFUSES THEM ALL: no test fails where it holds
none_fails : (j : Job) (r : Result) → PagesTold j r → failed j r ≡ []
unfolding failed test filter if
none_fails j r e = let h = pages_passes j r e in rw (h.0, h.1, h.2, h.3, h.4, h.5, h.6)

map_each : {A B : Type 0} (f g : A → List B) (xs : List A) → map f xs ≡ map g xs → Each (λ x. f x ≡ g x) xs
map_each f g [] e = end
map_each f g (x ∷ xs) e = next (ap (λ l. get_or l 0 []) e) (map_each f g xs (ap tail e))

refused : Each (λ (w : Wrong). PagesTold (job_of w.job) w.told → ⊥) wrongs
refused =
    each_imp
    (λ w v e.
    let clash : w.fails ∷ w.others ≡ [] = sym v ∙ none_fails (job_of w.job) w.told e in
    let z : ◌≡◌ {A = ℕ} 0 1 = cc in
    omega arith)
    (map_each _ _ wrongs weighed)
