-- What is claimed of a tariff and a log that are not refused, and of the output. Definitions only.
use Rattle.std.specs.Prelude.{ℕ, ◌*◌, ◌<◌, ◌≤◌, ◌≡◌, List, [], ◌++◌, map, length, get_or, drop, None, Some}
use Rattle.spec.specs.Basics.{first_of}
use Rattle.spec.specs.Bytes.{AreBytes, parts}
use Rattle.spec.specs.Job.{Header, header_size, op_size, max_ops}
use Rattle.spec.specs.Encode.{header_bytes, header_for}
use Rattle.spec.specs.Decode.{file_of, job_of, op_of}
use Rattle.spec.specs.Check.{op_fault}
use Rattle.spec.specs.Tidy.{ops_present}
use Rattle.spec.specs.SwitchLog.{switch_log, no_logged}
use Rattle.spec.specs.Tariff.{bands_of, no_band, band_for, max_charge, charge_of, inserts, insert_bytes, tariff_fault}
use Rattle.spec.specs.Claims.{Accepted}

-- a charge file's bytes b with the output behind them, under a header that counts its operations: a job without turns
unfoldable pub with_inserts : List ℕ → List ℕ → List ℕ → List ℕ
with_inserts t l b = header_bytes (header_for (file_of b) (length (inserts t l)) 0) ++ drop header_size b ++ insert_bytes t l

-- That job is accepted, and is the file with the inserts.
pub record InJob (t l b : List ℕ) : Type 0 where
  pub bytes : AreBytes (with_inserts t l b)
  pub accepted : Accepted (with_inserts t l b)
  pub says : job_of (with_inserts t l b) ≡ record { file = file_of b; ops = inserts t l; turns = [] }

-- What is claimed of the tariff t, the log l and the output.
pub record Priced (t l : List ℕ) : Type 0 where
  -- no two bands have one code
  pub apart : (i k : ℕ) → i < k → k < length (bands_of t) → (get_or (bands_of t) i no_band).code ≡ (get_or (bands_of t) k no_band).code → ⊥
  -- so the band that is taken for a code is the only one that has it
  pub one : (k : ℕ) → k < length (bands_of t) → band_for (bands_of t) (get_or (bands_of t) k no_band).code ≡ Some (get_or (bands_of t) k no_band)
  -- every charge fits an operation's four bytes
  pub fits : (i : ℕ) → i < length (switch_log l) → charge_of (bands_of t) (get_or (switch_log l) i no_logged) ≤ max_charge
  -- "10 bytes a record"
  pub size : length (insert_bytes t l) ≡ op_size * length (switch_log l)
  -- the output is an operations section as it stands, whatever follows it: row 9 of a job's check finds no fault in it, and it reads as the inserts
  pub fine : (h : Header) (post : List ℕ) → first_of (op_fault h) 0 (parts (length (switch_log l)) op_size (insert_bytes t l ++ post)) ≡ None
  pub reads : (post : List ℕ) → map op_of (parts (length (switch_log l)) op_size (insert_bytes t l ++ post)) ≡ inserts t l
  -- and so, with no more records than a job has operations, any charge file takes it
  pub job : (b : List ℕ) → AreBytes b → Accepted b → ops_present b ≡ None → length (switch_log l) ≤ max_ops → InJob t l b

-- THE TARIFF: so it is of every tariff and log that are not refused, with whatever buffer
abbrev pub PricesCalls : Type 0
PricesCalls = (room : ℕ) (t l : List ℕ) → AreBytes l → tariff_fault room t l ≡ None → Priced t l
