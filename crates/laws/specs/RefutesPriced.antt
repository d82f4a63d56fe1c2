-- A test that fails refutes the claim: where a field of `Priced` or of `InJob` holds of every tariff and log that are not refused, the test of that
-- name in WeighedPriced is true. As in Refutes, each is shown from the field's statement alone, whatever the definitions of the tariff are.
use Rattle.std.specs.Prelude.{◌≡◌, refl, ℕ, suc, ◌<◌, List, [], ◌∷◌, Bool, true, false, length, get_or, Option, None, Some}
use Rattle.std.proofs.Math.Path.{ap}
use Rattle.std.proofs.Math.Bool.{not}
use Rattle.std.proofs.Common.{true≢false, arith}
use Rattle.std.proofs.Math.Dec.{eqb}
use borrow.Author.Tests.{eq-eqb, ne_eqb, le-leb, lt-ltb}
use Rattle.spec.specs.Basics.{each}
use Rattle.spec.specs.Encode.{op_bytes, encode_job}
use Rattle.spec.specs.Decode.{header_of}
use Rattle.spec.specs.SwitchLog.{no_logged, switch_log}
use Rattle.spec.specs.Tariff.{Band, no_band, bands_of, tariff_fault}
use Rattle.spec.specs.Priced.{InJob, Priced}
use Rattle.laws.specs.Tools.{is_some, each_imp, true_all_of}
use Rattle.laws.specs.Codec.Tools.{each_places}
use Rattle.laws.specs.Refutes.{is_and, is_or, eqb_same, same_true}
use Rattle.laws.specs.WeighedPriced.{Call, unless, numbers, distinct, apart, one, fits, size, cut, fine, reads, bytes, accepted, says}

nothing : {A : Type 0} (o : Option A) → is_some o ≡ false → o ≡ None
unfolding is_some
nothing None e = refl
nothing (Some x) e = absurd (true≢false e)

-- codes that are apart by their places
distinct_true
    : (bs : List Band)
    → ((i k : ℕ) → i < k → k < length bs → (get_or bs i no_band).code ≡ (get_or bs k no_band).code → ⊥)
    → distinct bs ≡ true
unfolding distinct
distinct_true [] h = refl
distinct_true (b ∷ bs) h =
    is_and
    (true_all_of _ _ ((each_places bs no_band).1 (λ k l. ap not (ne_eqb _ _ (h 0 (suc k) (omega arith) (omega arith))))))
    (distinct_true bs (λ i k u l. h (suc i) (suc k) (omega arith) (omega arith)))

-- what is claimed of a call, where it is not refused
pub record Holds (c : Call) : Type 0 where
  pub priced : Priced c.tariff c.log
  pub job : InJob c.tariff c.log c.file

module _ (c : Call) (e : tariff_fault 1000 c.tariff c.log ≡ None → Holds c) where
  taken : {test : Bool} → (Holds c → test ≡ true) → unless c test ≡ true
  unfolding unless
  taken h = is_or (λ z. h (e (nothing _ z)))

  -- The fields, in the claim's order.
  apart-true : apart c ≡ true
  unfolding apart
  apart-true = taken (λ h. distinct_true _ h.priced.apart)

  one_true : one c ≡ true
  unfolding one
  one_true = taken (λ h. true_all_of _ _ ((each_places (bands_of c.tariff) no_band).1 (λ k l. same_true eqb eqb_same (ap numbers (h.priced.one k l)))))

  fits-true : fits c ≡ true
  unfolding fits
  fits-true = taken (λ h. true_all_of _ _ ((each_places (switch_log c.log) no_logged).1 (λ i l. le-leb _ _ (h.priced.fits i l))))

  size-true : size c ≡ true
  unfolding size
  size-true = taken (λ h. eq-eqb _ _ h.priced.size)

  fine-true : fine c ≡ true
  unfolding fine cut is_some
  fine-true = taken (λ h. ap (λ o. not (is_some o)) (h.priced.fine (header_of c.file) (0 ∷ [])))

  reads-true : reads c ≡ true
  unfolding reads cut
  reads-true = taken (λ h. same_true eqb eqb_same (ap (each op_bytes) (h.priced.reads (0 ∷ []))))

  bytes-true : bytes c ≡ true
  unfolding bytes
  bytes-true = taken (λ h. true_all_of _ _ (each_imp (λ x l. lt-ltb x 256 l) h.job.bytes))

  accepted-true : accepted c ≡ true
  unfolding accepted is_some
  accepted-true = taken (λ h. ap (λ o. not (is_some o)) h.job.accepted)

  says-true : says c ≡ true
  unfolding says
  says-true = taken (λ h. same_true eqb eqb_same (ap encode_job h.job.says))

  -- all of them
  pub priced_passes
      : (apart c ≡ true)
      × (one c ≡ true)
      × (fits c ≡ true)
      × (size c ≡ true)
      × (fine c ≡ true)
      × (reads c ≡ true)
      × (bytes c ≡ true)
      × (accepted c ≡ true)
      × (says c ≡ true)
  priced_passes = (apart-true, one_true, fits-true, size-true, fine-true, reads-true, bytes-true, accepted-true, says-true)
