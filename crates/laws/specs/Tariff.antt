-- Bands and log records: which band a code has, and what 16 and the records' refusals rule out where they are not told.
use Rattle.std.proofs.Math.Logic.Iff
use Rattle.std.specs.Prelude.{ℕ, suc, ◌*◌, ◌≤◌, ◌<◌, ◌≡◌, refl, ◌↔◌, List, Bool, true, false, ◌||◌, get_or, take, None, Some}
use Rattle.std.proofs.Common.{sym, true≢false, arith, length-take-le, take-suc, get_or-take}
use Rattle.std.proofs.lemmas.Option.{none-some}
use Rattle.std.proofs.Math.ListN.{length}
use Rattle.std.proofs.Math.Dec.{eqb}
use Rattle.spec.specs.Basics.{if, or_else}
use Rattle.spec.specs.SwitchLog.{logged_size, no_logged, switch_log}
use Rattle.spec.specs.Tariff.{Band, min_unit, max_unit, no_band, bands_of, is_coded, band_for, charge_of, bad_band, band_fault, wrong_band, max_charge, logged_fault, wrong_logged}
use Rattle.laws.specs.Tools.{if-true}
use Rattle.laws.specs.Codec.Tools.{eqb_yes, eqb_no, or_else_none, numbered-none, among_none, failed}
use Rattle.laws.specs.Codec.Walk.{first-none, first-at, first_snoc, any_none, any_snoc}

-- ---- the band with a code

-- a band, if its code is the one asked for
if_none : {A : Type 0} (t : Bool) (x : A) → if t (Some x) None ≡ None ↔ t ≡ false
unfolding if
if_none true x = (λ e. absurd (none-some _ (sym e)), λ e. absurd (true≢false e))
if_none false x = (λ e. refl, λ e. refl)

-- no band has a code exactly if none is taken for it
pub coded_band : (bands : List Band) (code : ℕ) → is_coded bands code ≡ false ↔ band_for bands code ≡ None
unfolding is_coded band_for
coded_band bands code = simp (any_none (λ i (b : Band). eqb b.code code) bands no_band, first-none (λ i (b : Band). if (eqb b.code code) (Some b) None) bands no_band, if_none) Iff.rfl

-- one band more: for an index that is filled band by band
module _ (bands : List Band) (i code : ℕ) (l : i < length bands) where
  pub coded_snoc : is_coded (take (suc i) bands) code ≡ (is_coded (take i bands) code || eqb (get_or bands i no_band).code code)
  unfolding is_coded
  coded_snoc = rw (take-suc bands i no_band) (any_snoc _ 0 (take i bands) (get_or bands i no_band))

  pub band_snoc
      : band_for (take (suc i) bands) code
      ≡ or_else (band_for (take i bands) code) (if (eqb (get_or bands i no_band).code code) (Some (get_or bands i no_band)) None)
  unfolding band_for
  band_snoc = rw (take-suc bands i no_band) (first_snoc _ 0 (take i bands) (get_or bands i no_band))

-- ---- 16 is not told

module _ (t : List ℕ) (k : ℕ) (e : wrong_band t ≡ None) (l : k < length (bands_of t)) where
  abbrev b : Band
  b = get_or (bands_of t) k no_band

  -- no earlier band has its code, and its unit is within the limits
  band_good : (is_coded (take k (bands_of t)) b.code ≡ false) × ((min_unit ≤ b.unit) × (b.unit ≤ max_unit))
  unfolding wrong_band band_fault bad_band
  band_good = simp failed at ((first-none (band_fault (bands_of t)) (bands_of t) no_band).0 ((among_none _ _).0 ((among_none _ _).0 e).1).0 k l)

  pub unit_good : (min_unit ≤ b.unit) × (b.unit ≤ max_unit)
  unit_good = band_good.1

  pub codes_apart : (q : ℕ) → q < k → (get_or (bands_of t) q no_band).code ≡ b.code → ⊥
  unfolding is_coded
  codes_apart q u =
      let w : q < length (take k (bands_of t)) = rw (length-take-le k (bands_of t) (omega arith)) u in
      (eqb_no _ _).0 (rw (get_or-take k (bands_of t) q no_band u) at ((any_none (λ i (a : Band). eqb a.code b.code) (take k (bands_of t)) no_band).0 band_good.0 q w))

  -- so it is the band that is taken for its code
  pub own_band : band_for (bands_of t) b.code ≡ Some b
  unfolding band_for
  own_band =
      first-at (λ i (a : Band). if (eqb a.code b.code) (Some a) None) (bands_of t) no_band k b l
      (λ q u. (if_none _ _).1 ((eqb_no _ _).1 (codes_apart q u)))
      (if-true (Some b) None ((eqb_yes b.code _).1 refl))

-- ---- the records are not refused

pub logged_good
    : (t l : List ℕ) (i : ℕ)
    → wrong_logged t l ≡ None
    → i < length (switch_log l)
    → let r = get_or (switch_log l) i no_logged in
    (is_coded (bands_of t) r.band ≡ true) × (charge_of (bands_of t) r ≤ max_charge)
unfolding wrong_logged logged_fault
logged_good t l i e u =
    let a = (first-none (λ k. logged_fault (bands_of t) (logged_size * k)) (switch_log l) no_logged).0 e i u in
    (simp (or_else_none, numbered-none, failed) at a).1
