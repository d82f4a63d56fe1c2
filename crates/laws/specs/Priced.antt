-- The tariff: when a call is not refused, and what is then so of the output.
use Rattle.std.specs.Prelude.{ℕ, ◌*◌, ◌/◌, ◌%◌, ◌<◌, ◌≤◌, ◌≡◌, refl, ◌↔◌, List, [], ◌++◌, map, length, get_or, drop, None}
use Rattle.std.proofs.Common.{sym, ◌∙◌, append_assoc, append-nil, arith}
use Rattle.std.proofs.Math.Path.{ap}
use Rattle.std.proofs.Math.ListN.{length-map, get_or-map}
use Rattle.std.proofs.Math.Seq.{drop_at}
use Rattle.spec.specs.Basics.{each, first_of, Each, end}
use Rattle.spec.specs.Bytes.{AreBytes, byte, word, long, two, parts}
use Rattle.spec.specs.Job.{Job, Header, header_size, op_size, max_ops, kind_number}
use Rattle.spec.specs.Encode.{header_bytes, header_for, page_bytes, op_bytes, encode_job, encode_file}
use Rattle.spec.specs.Decode.{header_of, file_of, job_of, op_of}
use Rattle.spec.specs.Check.{op_fault}
use Rattle.spec.specs.Tidy.{ops_present}
use Rattle.spec.specs.SwitchLog.{Logged, logged_size, no_logged, logged_of, switch_log, not_whole, broken_log}
use Rattle.spec.specs.Tariff.{band_size, max_charge, bands_of, charge_of, insert_for, inserts, insert_bytes, broken_tariff, wrong_band, logged_fault, wrong_logged, small_for_inserts, tariff_fault}
use Rattle.spec.specs.Claims.{Accepted}
use Rattle.spec.specs.Priced.{with_inserts, InJob, PricesCalls}
use Rattle.laws.specs.Tools.{each_imp, each_or}
use Rattle.laws.specs.Codec.Tools.{every, each_map, each_places, or_else_none, numbered-none, failed}
use Rattle.laws.specs.Codec.Told.{tells_either, tells_walk}
use Rattle.laws.specs.Codec.Numbered.{Above0, Numbered, above0}
use Rattle.laws.specs.Codec.Numbers.{long_lt, parts-bytes}
use Rattle.laws.specs.Codec.Parts.{parts_each}
use Rattle.laws.specs.Codec.Ops.{ops_said}
use Rattle.laws.specs.Codec.Sections.{length-op, length-ops, length_header}
use Rattle.laws.specs.Codec.Back.{map_back, op_back, decode-encode}
use Rattle.laws.specs.Codec.Proper.{OpProper, JobProper, job-fits}
use Rattle.laws.specs.Codec.Written.{op_passes, proper_accepted}
use Rattle.laws.specs.Codec.AsBytes.{written-bytes}
use Rattle.laws.specs.Codec.Exact.{accepted_proper}
use Rattle.laws.specs.Codec.Quiet.{no_ops_no_turns, charge-file-kept}
use Rattle.laws.specs.Tariff.{codes_apart, own_band, logged_good}

-- A CALL IS NOT REFUSED exactly if the tariff is whole bands and the log whole records, neither has a fault, and the output has room
pub record NotRefused (room : ℕ) (t l : List ℕ) : Type 0 where
  pub whole_bands : length t % band_size ≡ 0
  pub whole_records : length l % logged_size ≡ 0
  pub bands : wrong_band t ≡ None
  pub records : wrong_logged t l ≡ None
  pub enough : op_size * length (switch_log l) ≤ room

pub price_said : (room : ℕ) (t l : List ℕ) → tariff_fault room t l ≡ None ↔ NotRefused room t l
unfolding tariff_fault broken_tariff broken_log not_whole small_for_inserts
price_said room t l =
    simp (or_else_none, numbered-none, failed) (
      λ h. record { whole_bands = h.0; whole_records = h.1.0; bands = h.1.1.0; records = h.1.1.1.0; enough = h.1.1.1.1 },
      λ n. (n.whole_bands, (n.whole_records, (n.bands, (n.records, n.enough)))),
    )

-- no number is 0: where 0 is told, nothing is refused
pub price_numbered : (room : ℕ) (t l : List ℕ) → Numbered (tariff_fault room t l)
unfolding tariff_fault wrong_logged logged_fault
price_numbered room t l =
    tells_either Above0 _ _ (above0 1 _ refl)
    (tells_either Above0 _ _ (above0 1 _ refl)
    (tells_either Above0 _ _ (above0 16 _ refl)
    (tells_either Above0 _ _ (tells_walk Above0 _ 0 (switch_log l) (λ i. record_numbered (logged_size * i))) (above0 11 _ refl))))
  where
    record_numbered : (place : ℕ) (r : Logged) → Numbered (logged_fault (bands_of t) place r)
    record_numbered place r = tells_either Above0 _ _ (above0 9 _ refl) (tells_either Above0 _ _ (above0 14 _ refl) (above0 15 _ refl))

-- ---- the output as bytes

module _ (t l : List ℕ) where
  pub inserts-count : length (inserts t l) ≡ length (switch_log l)
  unfolding inserts
  inserts-count = rw length-map

  -- "10 bytes a record"
  pub size : length (insert_bytes t l) ≡ op_size * length (switch_log l)
  unfolding insert_bytes
  size = length-ops (inserts t l) ∙ ap (λ n. op_size * n) inserts-count

  -- operation by operation, whatever follows
  cut : (post : List ℕ) → parts (length (switch_log l)) op_size (insert_bytes t l ++ post) ≡ map op_bytes (inserts t l)
  unfolding insert_bytes
  cut post = rw (← inserts-count) (parts_each op_bytes op_size (inserts t l) post (every length-op (inserts t l)))

-- THE BUFFER THAT IS ASKED FOR IS ENOUGH
pub price_enough : (room : ℕ) (t l : List ℕ) → tariff_fault room t l ≡ None → length (insert_bytes t l) ≤ room
price_enough room t l e = rw size ((price_said room t l).0 e).enough

-- ---- the inserts of a log whose records are not refused

call-small : (l : List ℕ) (i : ℕ) → AreBytes l → (get_or (switch_log l) i no_logged).call < 4294967296
unfolding switch_log logged_of long word byte
call-small l i h =
    let ps = parts (length l / logged_size) logged_size l in
    rw (get_or-map logged_of ps i []) (long_lt (get_or ps i []) (each_or ps i [] end (parts-bytes (length l / logged_size) logged_size l h)) 0)

module _ (t l : List ℕ) (bytes : AreBytes l) (e : wrong_logged t l ≡ None) where
  fits : (i : ℕ) → i < length (switch_log l) → charge_of (bands_of t) (get_or (switch_log l) i no_logged) ≤ max_charge
  fits i u = (logged_good t l i e u).1

  -- each is an operation as a job has them
  inserts_proper : Each OpProper (inserts t l)
  unfolding inserts insert_for kind_number
  inserts_proper =
      (each_map (insert_for (bands_of t)) (switch_log l)).1
      ((each_places (switch_log l) no_logged).1
      (λ k u. record { fits = record { call = call-small l k bytes; charge = omega (arith, fits k u) }; charge = λ n. absurd (let z = ap kind_number n in omega arith) }))

  fine : (h : Header) (post : List ℕ) → first_of (op_fault h) 0 (parts (length (switch_log l)) op_size (insert_bytes t l ++ post)) ≡ None
  fine h post = rw (cut t l post) ((ops_said h _).1 ((each_map op_bytes (inserts t l)).1 (each_imp op_passes inserts_proper)))

  reads : (post : List ℕ) → map op_of (parts (length (switch_log l)) op_size (insert_bytes t l ++ post)) ≡ inserts t l
  reads post = ap (map op_of) (cut t l post) ∙ map_back op_of op_bytes (each_imp (λ o p. op_back o p.fits) inserts_proper)

  -- behind a charge file
  module _ (b : List ℕ) (file : AreBytes b) (accepted : Accepted b) (no_ops : ops_present b ≡ None) (few : length (switch_log l) ≤ max_ops) where
    abbrev together : Job
    together = record { file = file_of b; ops = inserts t l; turns = [] }

    together_proper : JobProper together
    unfolding job_of
    together_proper =
        let p = accepted_proper b file accepted in
        record {
          file = p.file;
          records = p.records;
          op_count = rw inserts-count few;
          ops = inserts_proper;
          turn_count = omega arith;
          turns = end;
        }

    -- its directory and its pages
    abbrev sections : List ℕ
    sections = each two (file_of b).directory ++ each (page_bytes (file_of b).c) (drop 1 (file_of b).table)

    written : encode_file (file_of b) ≡ header_bytes (header_for (file_of b) 0 0) ++ sections
    unfolding encode_file encode_job each
    written = simp (append_assoc, append-nil)

    behind : drop header_size b ≡ sections
    unfolding ops_present
    behind =
        let m : (header_of b).ops ≡ 0 = simp failed at no_ops in
        ap (drop header_size) (sym (charge-file-kept b file accepted m (no_ops_no_turns b file accepted m)) ∙ written)
        ∙ drop_at (header_bytes (header_for (file_of b) 0 0)) sections header_size (length_header _)

    together_bytes : with_inserts t l b ≡ encode_job together
    unfolding with_inserts insert_bytes encode_job each
    together_bytes = rw behind (simp (append_assoc, append-nil))

    in_job : InJob t l b
    in_job =
        record {
          bytes = rw together_bytes (written-bytes together together_proper);
          accepted = rw together_bytes (proper_accepted together together_proper);
          says = rw together_bytes (decode-encode together (job-fits together together_proper));
        }

-- THE TARIFF
pub prices-calls : PricesCalls
prices-calls room t l bytes e =
    let n = (price_said room t l).0 e in
    record {
      apart = λ i k u v. codes_apart t k n.bands v i u;
      one = λ k u. own_band t k n.bands u;
      fits = fits t l bytes n.records;
      size = size t l;
      fine = fine t l bytes n.records;
      reads = reads t l bytes n.records;
      job = in_job t l bytes n.records;
    }
