-- The refusals at a record by what the code finds, and its charge.
use Rattle.std.specs.Prelude.{ℕ, ◌<◌, ◌≤◌, ◌*◌, ◌≡◌, refl, List, Bool, true, false, length, get_or, None, Some, Result, Ok, Err, IsOk}
use Rattle.std.proofs.Common.{sym, ◌∙◌, lt-ltb, le-ltb, eq-eqb, ne_eqb}
use Rattle.std.proofs.lemmas.Option.{none-some}
use Rattle.spec.specs.Basics.{when, or_else}
use Rattle.spec.specs.Check.{numbered}
use Rattle.spec.specs.declared.Reason.{Reason}
use Rattle.spec.specs.SwitchLog.{Logged, logged_size, no_logged, switch_log}
use Rattle.spec.specs.Tariff.{Band, is_coded, band_for, charge_in, charge_by, charge_of, max_charge, logged_fault, bands_of, wrong_logged}
use Rattle.laws.specs.Codec.Walk.{first-none}
use Rattle.laws.specs.Tariff.{coded_band}
use Rattle.tariff.specs.Call.{fault_at}

-- a band that is taken for a code has it
coded : (bands : List Band) (code : ℕ) (b : Band) → band_for bands code ≡ Some b → is_coded bands code ≡ true
coded bands code b e = by (is_coded bands code) refl
  where
    by : (t : Bool) → is_coded bands code ≡ t → is_coded bands code ≡ true
    by true f = f
    by false f = absurd (none-some _ (sym ((coded_band bands code).0 f) ∙ e))

pub charge-found : (bands : List Band) (b : Band) (r : Logged) → band_for bands r.band ≡ Some b → charge_of bands r ≡ charge_in b r
unfolding charge_of charge_by
charge-found bands b r e = rw e

-- 9, 14, 15: record r at place p
module _ (bands : List Band) (p : ℕ) (r : Logged) where
  pub refuse_spare : (r.spare ≡ 0 → ⊥) → Some (record { number = 9; place = p }) ≡ logged_fault bands p r
  unfolding logged_fault or_else numbered when
  refuse_spare h = rw (ne_eqb r.spare 0 h)

  pub refuse_band : r.spare ≡ 0 → band_for bands r.band ≡ None → Some (record { number = 14; place = p }) ≡ logged_fault bands p r
  unfolding logged_fault or_else numbered when
  refuse_band z n = rw (eq-eqb r.spare 0 z, (coded_band bands r.band).1 n)

  module _ (b : Band) (z : r.spare ≡ 0) (e : band_for bands r.band ≡ Some b) where
    pub refuse_charge : max_charge < charge_in b r → Some (record { number = 15; place = p }) ≡ logged_fault bands p r
    unfolding logged_fault or_else numbered when
    refuse_charge u = rw (eq-eqb r.spare 0 z, coded bands r.band b e, charge-found bands b r e, lt-ltb max_charge (charge_in b r) u)

    pub refuse_none : charge_in b r ≤ max_charge → None ≡ logged_fault bands p r
    unfolding logged_fault or_else numbered when
    refuse_none u = rw (eq-eqb r.spare 0 z, coded bands r.band b e, charge-found bands b r e, le-ltb max_charge (charge_in b r) u)

passed : {A : Type 0} (place : ℕ) (o : Result A Reason) → fault_at place o ≡ None → IsOk o
passed place (Ok x) h = refl
passed place (Err x) h = absurd (none-some _ (sym h))

-- where no record is refused, what is answered of record i, read as r, is its charge
pub record_passed
    : {A : Type 0} (t l : List ℕ) (i : ℕ) (o : Result A Reason) {r : Logged}
    → wrong_logged t l ≡ None
    → i < length (switch_log l)
    → r ≡ get_or (switch_log l) i no_logged
    → fault_at (logged_size * i) o ≡ logged_fault (bands_of t) (logged_size * i) r
    → IsOk o
unfolding wrong_logged
record_passed t l i o e u read f =
    passed _ o (rw read at f ∙ (first-none (λ k. logged_fault (bands_of t) (logged_size * k)) (switch_log l) no_logged).0 e i u)
