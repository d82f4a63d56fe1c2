-- Pages as they should be: an insert with room, a split and a delete leave such pages, and the insert's record is in its own.
use Rattle.std.specs.Prelude.{ℕ, zero, suc, ◌+◌, ◌^◌, ◌<◌, ◌≤◌, ◌*◌, ◌≡◌, refl, ◌⊎◌, ◌∷◌, Bool, true, false, not, length, None, Some}
use Rattle.std.proofs.Common.{◌∙◌, inl, inr, ⊎_elim, arith, pow-suc, ltb-true, ltb-false}
use Rattle.std.proofs.Math.Logic.{by_cases}
use Rattle.std.proofs.Math.Bool.{not-eq-not}
use Rattle.std.proofs.Math.Decide.{dec_le}
use Rattle.spec.specs.declared.Rec.{Rec}
use Rattle.spec.specs.Basics.{Each, end, next}
use Rattle.spec.specs.Key.{bit}
use Rattle.spec.specs.File.{Page, zero_page, find_in, is_not, without}
use Rattle.spec.specs.Split.{has_bit, with_bit, digit, half, added, Grown, grow, least_shared}
use Rattle.spec.specs.Turn.{cleared}
use Rattle.spec.specs.Proper.{flat, In, PageOk}
use Rattle.laws.specs.Tools.{if_case, beq-true, filter_each, filter-le}
use Rattle.laws.specs.Turns.Prefix.{of_half, to_half}
use Rattle.laws.specs.Turns.CallsRise.{put_own, put_length, put_each, put_rise, filter-rise}
use Rattle.laws.specs.Turns.Shared.{least-most, least_all, next_bit, bit-next}
use Rattle.laws.specs.Turns.Grow.{with_bit_find, joined_each}
use Rattle.laws.specs.Turns.Count.{with_bit_all, with_bit-few, shares_of}

pub added_ok
    : (g c : ℕ) (p : Page) (r : Rec)
    → PageOk g c p
    → In p r.call
    → length p.records < c
    → find_in p.records r.call ≡ None
    → PageOk g c (added p r)
unfolding added
added_ok g c p r h i l n =
    record {
      deep = h.deep;
      small = h.small;
      room = let e = put_length p.records r in omega arith;
      homed = put_each p.records r h.homed i;
      calls_rise = put_rise p.records r h.calls_rise n;
    }

half-small : (v : Bool) (q d : ℕ) → q < 2 ^ d → 2 * q + digit v < 2 ^ suc d
unfolding digit
half-small true q d h = rw pow-suc (omega arith)
half-small false q d h = rw pow-suc (omega arith)

half_ok : (g c : ℕ) (v : Bool) (p : Page) → PageOk g c p → p.depth < g → g ≤ 32 → PageOk g c (half v p)
unfolding half with_bit has_bit
half_ok g c v p h l w =
    record {
      deep = l;
      small = half-small v p.pattern p.depth h.small;
      room = let k = filter-le (has_bit v p.depth) p.records in omega (arith, h.room);
      homed =
          filter_each (has_bit v p.depth) p.records
          (λ r i e.
          let b : bit p.depth r.call ≡ v = beq-true _ _ e in
          rw b at (to_half p.depth r.call p.pattern (omega arith) i))
          h.homed;
      calls_rise = filter-rise (has_bit v p.depth) p.records h.calls_rise;
    }

pub cleared_ok : (g c : ℕ) (p : Page) (k : ℕ) → PageOk g c p → PageOk g c (cleared p k)
unfolding cleared without
cleared_ok g c p k h =
    record {
      deep = h.deep;
      small = h.small;
      room = let l = filter-le (is_not k) p.records in omega (arith, h.room);
      homed = filter_each (is_not k) p.records (λ r i e. i) h.homed;
      calls_rise = filter-rise (is_not k) p.records h.calls_rise;
    }

pub empty_ok : (g c : ℕ) → PageOk g c zero_page
empty_ok g c = record { deep = omega arith; small = omega arith; room = omega arith; homed = end; calls_rise = flat }

-- an insert into page p comes to an end: there is room, or enough splits are allowed
abbrev Ready : ℕ → ℕ → ℕ → Page → ℕ → Type 0
Ready g c n p k =
    ((length p.records < c) × (0 < n)) ⊎ ((least_shared p.records k < g) × (least_shared p.records k + 2 ≤ p.depth + n))

-- what an insert of r makes of page p: proper pages, and r is in its own
pub record Made (g c : ℕ) (r : Rec) (q : Page) : Type 0 where
  pub ok : PageOk g c q
  pub there : In q r.call → find_in q.records r.call ≡ Some r

ready_half
    : (g c n : ℕ) (p : Page) (r : Rec)
    → g ≤ 32
    → p.depth < g
    → PageOk g c p
    → In p r.call
    → least_shared p.records r.call < g
    → least_shared p.records r.call + 2 ≤ p.depth + suc n
    → Ready g c n (half (bit p.depth r.call) p) r.call
unfolding half
ready_half g c n p r w l h i a b =
    let s = shares_of p r.call h.homed i in
    let k = least-most p.records r.call p.depth (omega arith) s in
    by_cases (dec_le (suc p.depth) (least_shared p.records r.call))
    (λ q.
    let z = with_bit_all _ p.depth p.records (next_bit _ p.records r.call (least_all p.records r.call _ q)) in
    inr (rw z (omega arith)))
    (λ q.
    let few =
    with_bit-few _ p.depth p.records
    (λ t. q (least-most _ r.call _ (omega arith) (bit-next _ p.records r.call (omega arith) s t))) in
    inl (omega (arith, h.room)))

pub grow_made
    : (g c n : ℕ) (p : Page) (r : Rec)
    → g ≤ 32
    → PageOk g c p
    → In p r.call
    → find_in p.records r.call ≡ None
    → Ready g c n p r.call
    → Each (Made g c r) ((grow c n p r).old ∷ (grow c n p r).news)
unfolding grow half added
grow_made g c zero p r w h i a d =
    let k = least-most p.records r.call p.depth (omega (arith, h.deep)) (shares_of p r.call h.homed i) in
    ⊎_elim (λ x. absurd (omega arith)) (λ x. absurd (omega arith)) d
grow_made g c (suc n) p r w h i a d =
    let k = least-most p.records r.call p.depth (omega (arith, h.deep)) (shares_of p r.call h.homed i) in
    let v = bit p.depth r.call in
    if_case (λ (t : Grown). Each (Made g c r) (t.old ∷ t.news))
    (λ e. next (record { ok = added_ok g c p r h i (ltb-true _ c e) a; there = λ j. put_own p.records r a }) end)
    (λ e.
    let full : c ≤ length p.records = ltb-false _ c e in
    ⊎_elim (λ x. absurd (omega arith))
    (λ x.
    let l : p.depth < g = omega arith in
    let l' : p.depth < 32 = omega arith in
    joined_each v _ _
    (record {
      ok = half_ok g c (not v) p h l w;
      there = λ j. absurd ((not-eq-not {a = v} {b = v}).1 refl (of_half (not v) p.depth r.call p.pattern l' j).0);
    })
    (grow_made g c n (half v p) r w (half_ok g c v p h l w) (to_half p.depth r.call p.pattern l' i)
    (with_bit_find v p.depth p.records r.call refl ∙ a)
    (ready_half g c n p r w l h i x.0 x.1)))
    d)
