-- Row 8 needs no test of its own for a call that is earlier in the page: with that test beside it, it finds the same place, since up to there calls
-- would have to rise.
use Rattle.std.specs.Prelude.{ℕ, zero, suc, ◌<◌, ◌≤◌, ◌≡◌, refl, List, [], ◌∷◌, Bool, true, ◌||◌, length, get_or, take, Option, None}
use Rattle.std.proofs.Math.Path.{ap}
use Rattle.std.proofs.Common.{◌∙◌, arith}
use Rattle.std.proofs.Math.Logic.{by_cases}
use Rattle.std.proofs.Math.Bool.{false}
use Rattle.std.proofs.Math.Decide.{ℕ_discrete}
use Rattle.spec.specs.declared.Rec.{Rec}
use Rattle.spec.specs.Basics.{when, first_of}
use Rattle.spec.specs.File.{Page, no_record, pages_in_use, find_in}
use Rattle.spec.specs.Job.{page_place, record_place}
use Rattle.spec.specs.Decode.{header_of, file_of}
use Rattle.spec.specs.Check.{not_above, bad_record, record_fault, record_fault_in, wrong_record}
use Rattle.laws.specs.Tools.{is_some}
use Rattle.laws.specs.Turns.Records.{find_nil, find-miss}
use Rattle.laws.specs.Codec.Tools.{failed, or_no, when-none}
use Rattle.laws.specs.Codec.Walk.{first_agree}
use Rattle.laws.specs.Codec.Records.{Up, above_up}

-- the calls of the first i + 1 records rise
abbrev Climb : List Rec → ℕ → Type 0
Climb rs i = (k : ℕ) → k < i → Up rs k

climbs : (rs : List Rec) (i : ℕ) → Climb rs i → (get_or rs 0 no_record).call ≤ (get_or rs i no_record).call
climbs rs zero h = omega arith
climbs rs (suc i) h = let l = h i (omega arith) in let ih = climbs rs i (λ k u. h k (omega arith)) in omega arith

none_earlier : (rs : List Rec) (i : ℕ) → i < length rs → Climb rs i → find_in (take i rs) (get_or rs i no_record).call ≡ None
none_earlier [] i l h = absurd (omega arith)
none_earlier (r ∷ rs) zero l h = find_nil _
none_earlier (r ∷ rs) (suc i) l h =
    let up = climbs rs i (λ k u. h (suc k) (omega arith)) in
    let low = h 0 (omega arith) in
    find-miss r (take i rs) _ (λ e. omega arith) ∙ none_earlier rs i (omega arith) (λ k u. h (suc k) (omega arith))

-- row 8 with the test beside it
unfoldable pub earlier_too : Page → ℕ → Rec → Bool
earlier_too p i r = bad_record p i r || is_some (find_in (take i p.records) r.call)

unfoldable pub earlier_fault : ℕ → Page → ℕ → Rec → Option ℕ
earlier_fault place p i r = when (earlier_too p i r) (record_place place i)

or_same : (a b : Bool) → (a ≡ false → b ≡ false) → (a || b) ≡ a
or_same true b h = refl
or_same false b h = h refl

-- a record that is not refused is above the one before it
passed_up : (p : Page) (k : ℕ) → bad_record p (suc k) (get_or p.records (suc k) no_record) ≡ false → Up p.records k
unfolding bad_record not_above
passed_up p k h = above_up p.records k (simp failed at h).1

module _ (place : ℕ) (p : Page) where
  abbrev at : ℕ → Rec
  at k = get_or p.records k no_record

  same_fault
      : (k : ℕ)
      → k < length p.records
      → ((q : ℕ) → q < k → earlier_fault place p q (at q) ≡ None)
      → earlier_fault place p k (at k) ≡ record_fault place p k (at k)
  unfolding earlier_fault earlier_too record_fault is_some
  same_fault k l before =
      ap (λ t. when t (record_place place k))
      (or_same (bad_record p k (at k)) _ (λ e. ap is_some (none_earlier p.records k l (λ q u. passed_up p q (passed e (suc q) u)))))
    where
      passed : bad_record p k (at k) ≡ false → (q : ℕ) → q ≤ k → bad_record p q (at q) ≡ false
      passed e q u =
          by_cases (ℕ_discrete q k) (λ (i : q ≡ k). rw i e)
          (λ n. ((or_no _ _).0 ((when-none _ _).0 (before q (omega (arith, n))))).0)

  same_in_page : first_of (earlier_fault place p) 0 p.records ≡ first_of (record_fault place p) 0 p.records
  same_in_page = first_agree (earlier_fault place p) (record_fault place p) p.records no_record same_fault

-- of all pages in use
unfoldable pub wrong_or_earlier : List ℕ → Option ℕ
wrong_or_earlier b =
    let h = header_of b in
    first_of (λ x p. first_of (earlier_fault (page_place h x) p) 0 p.records) 1 (pages_in_use (file_of b))

-- THE PLACE IS THE SAME
pub repeats_told : (b : List ℕ) → wrong_or_earlier b ≡ wrong_record b
unfolding wrong_or_earlier wrong_record record_fault_in
repeats_told b = λ i. first_of (λ x p. same_in_page (page_place (header_of b) x) p i) 1 (pages_in_use (file_of b))
