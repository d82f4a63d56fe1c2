-- "The tariff": charges worked out from the switch's log, as inserts for a job.
use Rattle.std.specs.Prelude.{ℕ, ◌+◌, ◌-◌, ◌*◌, ◌/◌, ◌%◌, List, [], ◌∷◌, map, Bool, not, ◌||◌, length, get_or, take, ltb, leb, eqb, Option, None, Some}
use Rattle.spec.specs.declared.Kind.TheVariants.{Insert}
use Rattle.spec.specs.declared.Op.{Op}
use Rattle.spec.specs.Basics.{if, each, when, or_else, among, first_of, any_of}
use Rattle.spec.specs.Bytes.{byte, word, long, parts}
use Rattle.spec.specs.Job.{op_size}
use Rattle.spec.specs.Encode.{op_bytes}
use Rattle.spec.specs.Check.{outside, Fault, numbered}
use Rattle.spec.specs.Outcome.{Outcome, outcome_by, buffer_by}
use Rattle.spec.specs.SwitchLog.{Logged, logged_size, switch_log, not_whole, broken_log}

-- "A tariff has at most 32 bands of 20 bytes: code (1), free seconds (1), unit in seconds (2, from 1 to 3,600), connection fee (4), and price for
-- each started unit in the cheap, standard and dear class (4 each)"
pub record Band : Type 0 where
  pub code : ℕ
  pub free : ℕ
  pub unit : ℕ
  pub fee : ℕ
  pub prices : List ℕ

abbrev pub band_size : ℕ
band_size = 20

abbrev pub max_bands : ℕ
max_bands = 32

abbrev pub min_unit : ℕ
min_unit = 1

abbrev pub max_unit : ℕ
max_unit = 3600

-- what stands where there is no band
abbrev pub no_band : Band
no_band = record { code = 0; free = 0; unit = 0; fee = 0; prices = 0 ∷ 0 ∷ 0 ∷ [] }

unfoldable pub band_of : List ℕ → Band
band_of b =
    record {
      code = byte b 0;
      free = byte b 1;
      unit = word b 2;
      fee = long b 4;
      prices = long b 8 ∷ long b 12 ∷ long b 16 ∷ [];
    }

unfoldable pub bands_of : List ℕ → List Band
bands_of t = map band_of (parts (length t / band_size) band_size t)

-- the classes, by their places among a band's prices
abbrev pub cheap : ℕ
cheap = 0

abbrev pub standard : ℕ
standard = 1

abbrev pub dear : ℕ
dear = 2

-- "The class of each of the 24 hours is fixed: 0 to 6 and 20 to 23 cheap, 7, 18 and 19 standard, 8 to 17 dear"
unfoldable pub hour_class : ℕ → ℕ
hour_class h = if (leb h 6 || leb 20 h) cheap (if (eqb h 7 || eqb h 18 || eqb h 19) standard dear)

-- "The start's hour counts: start over 3,600, rounded down, modulo 24"
unfoldable pub hour_of : ℕ → ℕ
hour_of start = start / 3600 % 24

-- "price for each started unit in the cheap, standard and dear class": that of the start's hour
unfoldable pub price_at : Band → ℕ → ℕ
price_at b start = get_or b.prices (hour_class (hour_of start)) 0

-- "the started units beyond the free seconds": those seconds over the unit, rounded up. Within the free seconds there are none
unfoldable pub started_units : Band → ℕ → ℕ
started_units b talked = (talked - b.free + (b.unit - 1)) / b.unit

-- "the fee, plus price times the started units beyond the free seconds"
unfoldable pub due : Band → ℕ → ℕ → ℕ
due b start talked = b.fee + price_at b start * started_units b talked

-- "No seconds talked costs nothing. Otherwise the charge is .."
unfoldable pub charge_in : Band → Logged → ℕ
charge_in b r = if (eqb r.talked 0) 0 (due b r.start r.talked)

-- one of some bands has this code
unfoldable pub is_coded : List Band → ℕ → Bool
is_coded bands code = any_of (λ i (b : Band). eqb b.code code) 0 bands

-- the band with this code. (In a tariff no second one has it: claim `Priced.apart`)
unfoldable pub band_for : List Band → ℕ → Option Band
band_for bands code = first_of (λ i (b : Band). if (eqb b.code code) (Some b) None) 0 bands

-- a record's charge, by the band that it names
unfoldable pub charge_by : Option Band → Logged → ℕ
charge_by None r = 0
charge_by (Some b) r = charge_in b r

unfoldable pub charge_of : List Band → Logged → ℕ
charge_of bands r = charge_by (band_for bands r.band) r

-- "The output is an insert for each record, in log order."
unfoldable pub insert_for : List Band → Logged → Op
insert_for bands r = record { kind = Insert; call = r.call; charge = charge_of bands r }

unfoldable pub inserts : List ℕ → List ℕ → List Op
inserts t l = map (insert_for (bands_of t)) (switch_log l)

unfoldable pub insert_bytes : List ℕ → List ℕ → List ℕ
insert_bytes t l = each op_bytes (inserts t l)

-- 1: "first for a tariff that is not whole bands"
unfoldable pub broken_tariff : List ℕ → Option ℕ
broken_tariff t = not_whole band_size t

-- 16: "more than 32 bands, at the length; else the first band with an earlier band's code or a bad unit". Band i is b
unfoldable pub bad_band : List Band → ℕ → Band → Bool
bad_band bands i b = is_coded (take i bands) b.code || outside min_unit max_unit b.unit

unfoldable pub band_fault : List Band → ℕ → Band → Option ℕ
band_fault bands i b = when (bad_band bands i b) (band_size * i)

unfoldable pub wrong_band : List ℕ → Option ℕ
wrong_band t =
    let bands = bands_of t in
    among (when (ltb max_bands (length bands)) (length t) ∷ first_of (band_fault bands) 0 bands ∷ [])

-- "15 (charge above 2^32 − 1)"
abbrev pub max_charge : ℕ
max_charge = 4294967295

-- "then record by record, at that record, 9 for the zero byte, 14 (no such band), 15 (charge above 2^32 − 1)". Record r stands at this place
unfoldable pub logged_fault : List Band → ℕ → Logged → Option Fault
logged_fault bands place r =
    let charge = numbered 15 (when (ltb max_charge (charge_of bands r)) place) in
    let band = or_else (numbered 14 (when (not (is_coded bands r.band)) place)) charge in
    or_else (numbered 9 (when (not (eqb r.spare 0)) place)) band

unfoldable pub wrong_logged : List ℕ → List ℕ → Option Fault
wrong_logged t l = first_of (λ i. logged_fault (bands_of t) (logged_size * i)) 0 (switch_log l)

-- "then 11, under 10 bytes a record, at place 0"
unfoldable pub small_for_inserts : ℕ → List ℕ → Option ℕ
small_for_inserts room l = when (ltb room (op_size * length (switch_log l))) 0

-- "Checks: 1 first for a tariff .., then .. for a log ..; 16 ..; then record by record ..; then 11 .."; "places count within the buffer concerned".
-- An output buffer of `room` bytes is lent
unfoldable pub tariff_fault : ℕ → List ℕ → List ℕ → Option Fault
tariff_fault room t l =
    let last = numbered 11 (small_for_inserts room l) in
    let records = or_else (wrong_logged t l) last in
    let bands = or_else (numbered 16 (wrong_band t)) records in
    let log = or_else (numbered 1 (broken_log l)) bands in
    or_else (numbered 1 (broken_tariff t)) log

-- what a call comes to, with an output buffer of `room` bytes
unfoldable pub price_outcome : ℕ → List ℕ → List ℕ → Outcome
price_outcome room t l =
    let output = insert_bytes t l in
    outcome_by (tariff_fault room t l) output

-- and that buffer afterwards
unfoldable pub price_buffer : List ℕ → List ℕ → List ℕ → List ℕ
price_buffer t l buffer =
    let output = insert_bytes t l in
    buffer_by (tariff_fault (length buffer) t l) output buffer
