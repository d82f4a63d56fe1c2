-- The report that the code writes is the one that `spec` defines: for an accepted job, and a result that stands at the front of the bytes.
use Rattle.std.specs.Prelude.{◌≡◌, refl, List, ◌++◌, ℕ, ◌+◌, ◌*◌, ◌≤◌, ◌<◌, length, take, drop, Option, None, Some}
use Rattle.std.proofs.Common.{sym, ◌∙◌, arith, length-append, take-append-drop}
use Rattle.std.proofs.Math.Path.{ap}
use Rattle.std.proofs.Math.Nat.{mul-le-mul_left}
use Rattle.std.proofs.Math.Seq.{drop-drop}
use Rattle.spec.specs.Bytes.{byte, long}
use Rattle.spec.specs.Job.{max_ops, page_size, table_offset, ops_offset, turns_offset, total}
use Rattle.spec.specs.Decode.{header_of, page_parts, job_of}
use Rattle.spec.specs.Result.{Result, log_offset, encode_result}
use Rattle.spec.specs.Check.{job_fault}
use Rattle.spec.specs.Report.{report}
use Rattle.laws.specs.Codec.Parts.{part_place}
use Rattle.laws.specs.Codec.Rows.{HeaderSays, accepted_header, accepted-rows}
use Rattle.laws.specs.Codec.Accepted.{fine}
use Rattle.laws.specs.Codec.Sizes.{length-result}
use Rattle.laws.specs.Codec.ResultBack.{ResultFits, HeaderTells, header_back, unfiled, filed, result_back}
use Rattle.report.specs.Read.{report_of}
use Rattle.report.specs.Sound.{OpsSound, LogSound, FileSound, ChargeSound, Sound}

-- an accepted charge file: its pages in use lie within it, and have room for their records
module _ (b : List ℕ) (accepted : job_fault b ≡ None) where
  file-says : HeaderSays b
  file-says = accepted_header b accepted

  -- the page table ends within the job
  within : ops_offset (header_of b) ≤ length b
  unfolding total turns_offset
  within = omega (arith, file-says.laid.size)

  table-within : long b 16 + page_size (header_of b).c * (header_of b).used ≤ length b
  unfolding ops_offset
  table-within = omega (arith, within, file-says.laid.table, mul-le-mul_left (page_size (header_of b).c) file-says.limits.used.1)

  room
      : (k : ℕ)
      → k < (header_of b).used
      → 4 + 8 * byte (take (page_size (header_of b).c) (drop (page_size (header_of b).c * k) (drop (long b 16) b))) 1 ≤ page_size (header_of b).c
  unfolding page_parts
  room k u =
      let h = header_of b in
      let l : k < h.limit = omega (arith, file-says.limits.used.1) in
      let e = part_place h.limit (page_size h.c) (table_offset h) b k l in
      rw (file-says.laid.table, drop-drop, ← e) (omega (arith, (fine b ((accepted-rows b).0 accepted) k l).count))

  file_sound : FileSound b
  unfolding header_of
  file_sound =
      let l = file-says.limits in
      record {
        header = file-says.laid.header;
        capacity = l.capacity.1;
        few = omega (arith, l.used.1, l.pages.1);
        within = l.used.1;
        place = file-says.laid.table;
        table = table-within;
        counts = record { each = room };
      }

module _ (b : List ℕ) (r : Result) (accepted : job_fault b ≡ None) (fits : ResultFits (length (job_of b).ops) r) (post : List ℕ) where
  says : HeaderSays b
  says = accepted_header b accepted

  abbrev bytes : List ℕ
  bytes = encode_result r ++ post

  most : length (job_of b).ops ≤ max_ops
  most = omega (arith, says.counts.ops, says.limits.ops)

  tells : HeaderTells bytes r
  tells = header_back _ r most fits post

  long-enough : 24 + 8 * length r.answers + 4 * length r.log ≤ length bytes
  long-enough = omega (arith, length-append (encode_result r) post, length-result r)

  ops_sound : OpsSound b bytes
  unfolding header_of total turns_offset
  ops_sound =
      record {
        header = says.laid.header;
        top = omega (arith, long-enough);
        few = says.limits.ops;
        count = tells.answer_count ∙ fits.count ∙ says.counts.ops;
        place = says.laid.ops;
        ops = omega (arith, says.laid.ops, says.laid.size);
        answers = rw (tells.answers, tells.answer_count) (omega (arith, long-enough));
      }

  log_sound : LogSound bytes
  unfolding log_offset
  log_sound =
      record {
        top = omega (arith, long-enough);
        few = rw tells.line_count fits.lines;
        log = rw (tells.log, tells.line_count) (omega (arith, long-enough));
      }

  charge_sound : (o : Option (List ℕ)) → r.file ≡ o → (long bytes 16 ≡ 0 → ⊥) → ChargeSound bytes
  charge_sound None e n = absurd (n (unfiled _ r most fits post e))
  charge_sound (Some f) e n =
      let k = filed _ r most fits post f e in
      record { ordered = k.ordered; within = k.within; file = rw k.part (file_sound f (fits.file f e)) }

  sound : Sound b bytes
  sound = record { ops = ops_sound; log = log_sound; charge = charge_sound r.file refl }

  same : report_of b bytes ≡ report (job_of b) r
  unfolding report_of
  same = ap (report (job_of b)) (result_back _ r most fits post)

-- THE REPORT IS RIGHT: of an accepted job b and a result r whose bytes stand at the front of `res`
module _ (b res : List ℕ) (r : Result) (n : ℕ) (accepted : job_fault b ≡ None) (fits : ResultFits (length (job_of b).ops) r) (written : take n res ≡ encode_result r) where
  whole : res ≡ encode_result r ++ drop n res
  whole = sym (take-append-drop n res) ∙ ap (λ l. l ++ drop n res) written

  pub report_sound : Sound b res
  report_sound = rw whole (sound b r accepted fits (drop n res))

  pub report_same : report_of b res ≡ report (job_of b) r
  report_same = ap (report_of b) whole ∙ same b r accepted fits (drop n res)
