-- The claim on the tariff weighed, as Weighed does for the others: each field of `Priced` and of `InJob` as a test that computes, of a tariff, a log
-- and a charge file, and some on which every test passes. A tariff and a log that are refused pass, since of them nothing is claimed: three of those
-- here must be, and a definition that takes them fails. For each field there is a changed definition under which its test fails (tests/edits).
-- That a test that fails refutes the claim is proved in RefutesPriced.
use Rattle.std.specs.Prelude.{ℕ, ◌*◌, ◌≡◌, refl, List, [], ◌∷◌, ◌++◌, map, Bool, true, not, ◌&&◌, ◌||◌, length, ltb, leb, eqb, Option, None, Some}
use Rattle.spec.specs.Basics.{each, first_of, all_of}
use Rattle.spec.specs.Bytes.{two, four, parts}
use Rattle.spec.specs.Job.{Job, op_size}
use Rattle.spec.specs.Encode.{op_bytes, encode_job}
use Rattle.spec.specs.Decode.{header_of, file_of, job_of, op_of}
use Rattle.spec.specs.Check.{op_fault, job_fault}
use Rattle.spec.specs.SwitchLog.{Logged, switch_log}
use Rattle.spec.specs.Tariff.{Band, bands_of, band_for, max_charge, charge_of, inserts, insert_bytes, tariff_fault}
use Rattle.spec.specs.Priced.{with_inserts}
use Rattle.spec.specs.Opened.{opened}
use Rattle.laws.specs.Tools.{is_some}
use Rattle.laws.specs.Weighed.{same, call, one_page, tested}

-- a tariff, a log, and the bytes of a charge file
pub record Call : Type 0 where
  pub tariff : List ℕ
  pub log : List ℕ
  pub file : List ℕ

-- the call is refused, even with room for 100 inserts; or the test holds
unfoldable pub unless : Call → Bool → Bool
unless c test = is_some (tariff_fault 1000 c.tariff c.log) || test

-- a band in numbers; there may be none
unfoldable pub numbers : Option Band → List ℕ
numbers None = []
numbers (Some b) = b.code ∷ b.free ∷ b.unit ∷ b.fee ∷ b.prices

-- no two of some bands have one code
unfoldable pub distinct : List Band → Bool
distinct [] = true
distinct (b ∷ bs) = all_of (λ (a : Band). not (eqb b.code a.code)) bs && distinct bs

-- The fields, in the claim's order.
-- have no two bands one code?
unfoldable pub apart : Call → Bool
apart c = unless c (distinct (bands_of c.tariff))

-- is each band the one that is taken for its code?
unfoldable pub one : Call → Bool
one c =
    let bands : List Band = bands_of c.tariff in
    unless c (all_of (λ (b : Band). same eqb (numbers (band_for bands b.code)) (numbers (Some b))) bands)

-- does every charge fit?
unfoldable pub fits : Call → Bool
fits c = unless c (all_of (λ (r : Logged). leb (charge_of (bands_of c.tariff) r) max_charge) (switch_log c.log))

-- are there ten bytes a record?
unfoldable pub size : Call → Bool
size c = unless c (eqb (length (insert_bytes c.tariff c.log)) (op_size * length (switch_log c.log)))

-- the output, cut into operations; a zero follows it
unfoldable pub cut : Call → List (List ℕ)
cut c = parts (length (switch_log c.log)) op_size (insert_bytes c.tariff c.log ++ (0 ∷ []))

-- does row 9 find no fault in it? Does it read as the inserts? (Operations and jobs are compared as their bytes.)
unfoldable pub fine : Call → Bool
fine c = unless c (not (is_some (first_of (op_fault (header_of c.file)) 0 (cut c))))

unfoldable pub reads : Call → Bool
reads c = unless c (same eqb (each op_bytes (map op_of (cut c))) (each op_bytes (inserts c.tariff c.log)))

-- behind the charge file: are these bytes, accepted, and the file with the inserts?
unfoldable pub bytes : Call → Bool
bytes c = unless c (all_of (λ x. ltb x 256) (with_inserts c.tariff c.log c.file))

unfoldable pub accepted : Call → Bool
accepted c = unless c (not (is_some (job_fault (with_inserts c.tariff c.log c.file))))

unfoldable pub says : Call → Bool
says c =
    let j : Job = record { file = file_of c.file; ops = inserts c.tariff c.log; turns = [] } in
    unless c (same eqb (encode_job (job_of (with_inserts c.tariff c.log c.file))) (encode_job j))

-- a band with one price and no free seconds, whose unit is a second; a record of hour 0
abbrev band_bytes : ℕ → ℕ → ℕ → List ℕ
band_bytes code fee price = (code ∷ 0 ∷ []) ++ two 1 ++ four fee ++ four price ++ four price ++ four price

abbrev logged_bytes : ℕ → ℕ → ℕ → List ℕ
logged_bytes number band talked = four number ++ two 300 ++ (band ∷ 0 ∷ []) ++ four 0 ++ four talked

-- each with a charge file of one call
abbrev with : List ℕ → List ℕ → Call
with t l = record { tariff = t; log = l; file = encode_job (one_page (call 2 50 ∷ []) [] []) }

-- two bands and three records, with the largest call number and the largest charge; neither bands nor records; two bands with one code; one band
-- twice; a charge of 2^32
abbrev calls : List Call
calls =
    with (band_bytes 7 4 1 ++ band_bytes 9 0 1) (logged_bytes 1000 9 4294967295 ++ logged_bytes 4294967295 7 3 ++ logged_bytes 5 9 0)
    ∷ with [] []
    ∷ with (band_bytes 7 4 1 ++ band_bytes 7 5 1) (logged_bytes 1000 7 3)
    ∷ with (band_bytes 7 4 1 ++ band_bytes 7 4 1) (logged_bytes 1000 7 3)
    ∷ with (band_bytes 7 1 1) (logged_bytes 1000 7 4294967295)
    ∷ []

abbrev Passes : (Call → Bool) → Type 0
Passes test = map test calls ≡ map (λ (c : Call). true) calls

unfoldable asked : Unit {0}
unfolding opened tested unless cut numbers distinct with_inserts
asked = tt

apart_passes : Passes apart
unfolding asked apart
apart_passes = refl

one_passes : Passes one
unfolding asked one
one_passes = refl

fits_passes : Passes fits
unfolding asked fits
fits_passes = refl

size_passes : Passes size
unfolding asked size
size_passes = refl

fine_passes : Passes fine
unfolding asked fine
fine_passes = refl

reads_passes : Passes reads
unfolding asked reads
reads_passes = refl

bytes_passes : Passes bytes
unfolding asked bytes
bytes_passes = refl

accepted_passes : Passes accepted
unfolding asked accepted
accepted_passes = refl

says_passes : Passes says
unfolding asked says
says_passes = refl
