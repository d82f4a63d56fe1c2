-- The numbers that the code reads in the headers say where the definitions find the sections. No contract cites this file.
use Rattle.std.proofs.Common.{◌≡◌, refl, sym, ◌∙◌, List, ◌++◌, map, append-nil, ℕ, zero, suc, ◌+◌, ◌-◌, ◌*◌, ◌/◌, ◌≤◌, ◌<◌, arith, length, take, drop, Option, Some, None}
use Rattle.spec.specs.Basics.{each}
use Rattle.spec.specs.Bytes.{byte, word, long, parts}
use Rattle.spec.specs.File.{pages_in_use}
use Rattle.spec.specs.Decode.{header_of, page_parts, op_parts, op_of, page_of, file_of, job_of}
use Rattle.spec.specs.Result.{answer_of, line_of, answers_in, log_in, file_in, read_result}
use Rattle.spec.specs.Report.{job_line, op_lines, at_line, page_lines, pages_part, report}
use Rattle.text.specs.Sections.{count_lent, parts_lent, part_lent}
use Rattle.report.specs.Read.{report_of}
use Rattle.report.specs.Sound.{OpsSound, LogSound, FileSound, Counts}

-- the part of s that is lent: n parts of `size` bytes from place a on
abbrev pub lent : List ℕ → ℕ → ℕ → ℕ → List ℕ
lent s a size n = take (a + size * n - a) (drop a s)

module _ (job res : List ℕ) (m p q : ℕ) (is-m : m ≡ word res 2) (is-p : p ≡ long job 20) (is-q : q ≡ long res 8) (h : OpsSound job res) where
  within-ops : p + 10 * m ≤ length job
  within-ops = rw (is-p, is-m, h.count) h.ops

  within-answers : q + 8 * m ≤ length res
  within-answers = rw (is-q, is-m) h.answers

  pub answers-read
      : op_lines 0 (map op_of (parts (length (lent job p 10 m) / 10) 10 (lent job p 10 m))) (map answer_of (parts (length (lent res q 8 m) / 8) 8 (lent res q 8 m)))
      ≡ op_lines 0 (job_of job).ops (answers_in res)
  unfolding job_of op_parts header_of answers_in
  answers-read =
      rw (parts_lent job p 10 m (omega arith) within-ops, parts_lent res q 8 m (omega arith) within-answers, is-m, is-p, is-q, h.place, h.count) refl

pub log-read
    : (res : List ℕ) (n q : ℕ)
    → n ≡ word res 4
    → q ≡ long res 12
    → LogSound res
    → each at_line (map line_of (parts (length (lent res q 4 n) / 4) 4 (lent res q 4 n))) ≡ each at_line (log_in res)
unfolding log_in
log-read res n q is-n is-q h =
    let within : q + 4 * n ≤ length res = rw (is-n, is-q) h.log in
    rw (parts_lent res q 4 n (omega arith) within, is-n, is-q) refl

-- the first k of n parts, each read
take-parts : {A : Type 0} (dec : List ℕ → A) (k n size : ℕ) (b : List ℕ) → k ≤ n → take k (map dec (parts n size b)) ≡ map dec (parts k size b)
unfolding parts
take-parts dec zero n size b h = refl
take-parts dec (suc k) zero size b h = absurd (omega arith)
take-parts dec (suc k) (suc n) size b h = rw (take-parts dec k n size (drop size b) (omega arith))

module _ (b : List ℕ) (c u t : ℕ) (is-c : c ≡ byte b 3) (is-u : u ≡ word b 6) (is-t : t ≡ long b 16) (h : FileSound b) where
  abbrev size : ℕ
  size = 4 + 8 * c

  some : 0 < size
  some = omega arith

  within-pages : t + size * u ≤ length b
  within-pages = rw (is-c, is-u, is-t) h.table

  pub file-count : length (lent b t size u) / size ≡ u
  file-count = count_lent b t size u some within-pages

  pub file-read : page_lines 1 (map page_of (parts (length (lent b t size u) / size) size (lent b t size u))) ≡ pages_part (Some b)
  unfolding pages_part pages_in_use file_of page_parts header_of
  file-read =
      rw (parts_lent b t size u some within-pages, is-c, is-u, is-t, h.place)
      (sym (rw (take-parts page_of (word b 6) (word b 4) _ _ h.within) refl))

  pub file-counts : Counts (lent b t size u) size (length (lent b t size u) / size)
  file-counts =
      record {
        each = λ k l.
            let in-use : k < u = rw (file-count) at l in
            rw (part_lent b t size u some within-pages k in-use, is-c, is-t) (h.counts.each k (rw (← is-u) in-use));
      }

-- the report, by its pieces
pub report-read
    : (job res : List ℕ) (file : Option (List ℕ))
    → file ≡ file_in res
    → job_line (job_of job) ++ op_lines 0 (job_of job).ops (answers_in res) ++ each at_line (log_in res) ++ pages_part file ≡ report_of job res
unfolding report_of read_result report
report-read job res file e = rw e refl

pub report-none
    : (job res : List ℕ)
    → None ≡ file_in res
    → job_line (job_of job) ++ op_lines 0 (job_of job).ops (answers_in res) ++ each at_line (log_in res) ≡ report_of job res
unfolding pages_part
report-none job res e = sym (append-nil _) ∙ report-read job res None e
