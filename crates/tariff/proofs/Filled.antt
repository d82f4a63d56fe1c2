-- An index that is filled band by band: the empty one, one band more, and what is read from it.
use Rattle.std.proofs.Math.Logic.Iff
use Rattle.std.specs.Prelude.{ℕ, suc, ◌+◌, ◌<◌, ◌≡◌, refl, ◌↔◌, List, [], ◌∷◌, Bool, true, false, ◌||◌, length, get_or, take, eqb, Option, None, Some}
use Rattle.std.proofs.Common.{sym, ap, ◌∙◌, true≢false, arith, add-one, length-take-le, take-suc, eqb-true, set, replicate}
use Rattle.std.proofs.lemmas.List.{get_or-replicate, get_or-set_same, get_or-set_other}
use Rattle.std.proofs.lemmas.Bool.{eqb-false}
use Rattle.std.proofs.lemmas.Option.{none-some, same_Some}
use Rattle.std.specs.Option.{is_some}
use Rattle.spec.specs.Basics.{if, when, or_else, first_of}
use Rattle.spec.specs.Check.{outside}
use Rattle.spec.specs.Tariff.{Band, no_band, min_unit, max_unit, is_coded, band_for, bad_band}
use Rattle.laws.specs.Codec.Tools.{failed, or_no, or_else_end}
use Rattle.laws.specs.Codec.Walk.{first-none, first_snoc, any_none}
use Rattle.laws.specs.Tariff.{coded_band}
use Rattle.tariff.specs.Index.{number_for, Indexed}

-- before the first band no code has one
pub index-none : Indexed [] (replicate 256 None)
unfolding number_for first_of
index-none code l = get_or-replicate 256 code None None l

-- where a place is told, nothing is asked of the index
pub told_first : {X : Type 0} {o : Option ℕ} {p : ℕ} → Some p ≡ o → (Some p ≡ o) × (o ≡ None → X)
told_first e = (e, λ z. absurd (none-some _ (sym z ∙ sym e)))

-- a code has no number exactly if no band has it
number_none : (bands : List Band) (code : ℕ) → number_for bands code ≡ None ↔ is_coded bands code ≡ false
unfolding number_for is_coded
number_none bands code = simp (any_none (λ i (b : Band). eqb b.code code) bands no_band, first-none (λ i (b : Band). when (eqb b.code code) i) bands no_band, failed) Iff.rfl

pub number_there : (bands : List Band) (code : ℕ) → is_some (number_for bands code) ≡ is_coded bands code
number_there bands code = by (number_for bands code) (is_coded bands code) refl refl
  where
    by : (o : Option ℕ) (t : Bool) → number_for bands code ≡ o → is_coded bands code ≡ t → is_some o ≡ t
    by None true e f = absurd (true≢false (sym f ∙ (number_none bands code).0 e))
    by None false e f = refl
    by (Some k) true e f = refl
    by (Some k) false e f = absurd (none-some _ (sym ((number_none bands code).1 f) ∙ e))

-- what the code's tests make of band b, which it reads as a: o is its code's number in an index of the bands before it
pub bad_by_number
    : (bands : List Band) (i : ℕ) {a b : Band} {o : Option ℕ}
    → a ≡ b
    → o ≡ number_for (take i bands) a.code
    → (is_some o || outside min_unit max_unit a.unit) ≡ bad_band bands i b
unfolding bad_band
bad_by_number bands i {a = a} e f = rw (← e, f, number_there (take i bands) a.code)

-- the band with a number is the one that is taken for the code
pub record Numbered (bands : List Band) (code k : ℕ) : Type 0 where
  pub within : k < length bands
  pub band : band_for bands code ≡ Some (get_or bands k no_band)

module _ (code : ℕ) where
  record From (i : ℕ) (bands : List Band) (k : ℕ) : Type 0 where
    place : ℕ
    is : k ≡ i + place
    within : place < length bands
    band : first_of (λ j (b : Band). if (eqb b.code code) (Some b) None) i bands ≡ Some (get_or bands place no_band)

  from : (i : ℕ) (bands : List Band) (k : ℕ) → first_of (λ j (b : Band). when (eqb b.code code) j) i bands ≡ Some k → From i bands k
  unfolding first_of or_else when if
  from i [] k e = absurd (none-some _ e)
  from i (x ∷ xs) k e = by (eqb x.code code) refl e (from (suc i) xs k)
    where
      by
          : (t : Bool)
          → eqb x.code code ≡ t
          → or_else (when t i) (first_of (λ j (b : Band). when (eqb b.code code) j) (suc i) xs) ≡ Some k
          → (first_of (λ j (b : Band). when (eqb b.code code) j) (suc i) xs ≡ Some k → From (suc i) xs k)
          → From i (x ∷ xs) k
      by true q h later = let w = same_Some i k h in record { place = 0; is = omega arith; within = omega arith; band = rw q }
      by false q h later =
          let r = later h in
          record { place = suc r.place; is = omega arith; within = omega arith; band = rw q r.band }

number_found : (bands : List Band) (code k : ℕ) → number_for bands code ≡ Some k → Numbered bands code k
unfolding number_for band_for
number_found bands code k e =
    let r = from code 0 bands k e in
    let same : k ≡ r.place = omega arith in
    record { within = omega arith; band = rw same r.band }

-- what an index has at a code: no number, or that of the band that is taken for it
module _ (bands : List Band) (s : List (Option ℕ)) (index : Indexed bands s) (code : ℕ) (l : code < 256) where
  pub indexed_nobody : get_or s code None ≡ None → band_for bands code ≡ None
  indexed_nobody e = (coded_band bands code).0 ((number_none bands code).0 (sym (index code l) ∙ e))

  pub indexed_band : (k : ℕ) → get_or s code None ≡ Some k → Numbered bands code k
  indexed_band k e = number_found bands code k (sym (index code l) ∙ e)

-- one band more, with a code that no earlier band has: its number is put at its code, and what stands at other codes stays
module _ (bands : List Band) (i : ℕ) (l : i < length bands) where
  abbrev b : Band
  b = get_or bands i no_band

  snoc : (code : ℕ) → number_for (take (suc i) bands) code ≡ or_else (number_for (take i bands) code) (when (eqb b.code code) i)
  unfolding number_for
  snoc code =
      rw (take-suc bands i no_band)
      (first_snoc (λ j (a : Band). when (eqb a.code code) j) 0 (take i bands) b
      ∙ ap (λ n. or_else (number_for (take i bands) code) (when (eqb b.code code) n)) (omega (arith, length-take-le i bands (omega arith))))

  more
      : (s : List (Option ℕ))
      → length s ≡ 256
      → is_coded (take i bands) b.code ≡ false
      → Indexed (take i bands) s
      → Indexed (take (suc i) bands) (set s b.code (Some i))
  unfolding or_else when
  more s n e h code v = rw (snoc code) (by (eqb b.code code) refl)
    where
      by : (t : Bool) → eqb b.code code ≡ t → get_or (set s b.code (Some i)) code None ≡ or_else (number_for (take i bands) code) (when t i)
      by true q =
          let w : b.code ≡ code = eqb-true b.code code q in
          rw (sym w, get_or-set_same s b.code (Some i) None (omega arith), (number_none (take i bands) b.code).1 e)
      by false q =
          rw (get_or-set_other s b.code code (Some i) None (λ z. eqb-false b.code code q (sym z)), h code v) (sym (or_else_end _))

  -- as the loop has it: band i is not bad, and it is read as a
  pub index-next
      : {a : Band} (s : List (Option ℕ))
      → length s ≡ 256
      → a ≡ b
      → bad_band bands i b ≡ false
      → Indexed (take i bands) s
      → Indexed (take (i + 1) bands) (set s a.code (Some i))
  unfolding bad_band
  index-next s n e f h = rw (add-one, e) (more s n ((or_no _ _).0 f).0 h)
