-- A result that is written comes back when it is read, also with other bytes behind it: read_result (encode_result r ++ post) is r.
use Rattle.std.specs.Prelude.{ℕ, ◌+◌, ◌-◌, ◌^◌, ◌<◌, ◌≤◌, ◌≡◌, drop, Option, None, Some}
use Rattle.std.proofs.Math.Path.{refl, ap}
use Rattle.std.proofs.Common.{sym, ◌∙◌, length-append, drop_at, eq-eqb, ne_eqb}
use Rattle.std.proofs.Math.Logic.{by_cases}
use mathlib.Core.List.{List, [], ◌++◌, map, append_assoc}
use native.Mathlib.Omega.{arith}
use Rattle.std.proofs.Math.Decide.{ℕ_discrete}
use Rattle.std.proofs.Math.ListN.{length, take}
use Rattle.std.proofs.Math.Seq.{take_at}
use Rattle.spec.specs.Basics.{if, each, Each}
use Rattle.spec.specs.Bytes.{byte, word, long, two, four, parts}
use Rattle.spec.specs.Code.{not_yet}
use Rattle.spec.specs.Job.{max_ops}
use Rattle.spec.specs.Decode.{header_of}
use Rattle.spec.specs.Result.{Told, Line, Result, result_version_at, answer_count_at, line_count_at, unended_at, answers_offset_at, log_offset_at, file_offset_at, result_total_at, answers_offset, page_byte, answer_bytes, line_bytes, log_offset, file_offset, offset_field, file_bytes, result_header, encode_result, page_told, answer_of, line_of, answers_in, log_in, file_part, file_in, read_result}
use Rattle.spec.specs.Check.{job_fault}
use Rattle.laws.specs.Tools.{each_imp}
use Rattle.laws.specs.Codec.Tools.{every}
use Rattle.laws.specs.Codec.Numbers.{word_two, long_four}
use Rattle.laws.specs.Codec.Rows.{accepted_header}
use Rattle.laws.specs.Codec.Longest.{longest, total_most}
use Rattle.laws.specs.Codec.Sections.{section}
use Rattle.laws.specs.Codec.Back.{map_back}
use Rattle.laws.specs.Codec.Sizes.{length-answer, length_line, length-result_header, length-answers, length-lines}

-- the numbers of a result fit their fields, its total is its length, and its charge file is accepted as a job
pub record ToldFits (a : Told) : Type 0 where
  pub code : a.code < 2 ^ 8
  pub untold : a.code ≡ not_yet → a.page ≡ 0
  pub page : (a.code ≡ not_yet → ⊥) → (0 < a.page) × (a.page ≤ 2 ^ 8)
  pub used : a.used < 2 ^ 16
  pub charge : a.charge < 2 ^ 32

pub record LineFits (l : Line) : Type 0 where
  pub moment : l.moment < 2 ^ 16
  pub op : l.op < 2 ^ 16

-- a result of m operations
pub record ResultFits (m : ℕ) (r : Result) : Type 0 where
  pub version : r.version < 2 ^ 16
  pub unended : r.unended < 2 ^ 16
  pub total : r.total ≡ file_offset (length r.answers) (length r.log) + length (file_bytes r.file)
  pub count : length r.answers ≡ m
  pub answers : Each ToldFits r.answers
  pub lines : length r.log ≤ max_ops
  pub log : Each LineFits r.log
  pub file : (f : List ℕ) → r.file ≡ Some f → job_fault f ≡ None

-- one by one
page_back : (a : Told) → ToldFits a → page_told a.code (page_byte a) ≡ a.page
unfolding page_told page_byte if
page_back a h =
    by_cases (ℕ_discrete a.code not_yet) (λ e. rw (eq-eqb a.code not_yet e) (sym (h.untold e)))
    (λ n. rw (ne_eqb a.code not_yet n) (omega (arith, h.page n)))

answer_back : (a : Told) → ToldFits a → answer_of (answer_bytes a) ≡ a
unfolding answer_of answer_bytes long word byte four two
answer_back a h =
    λ i.
    record {
      code = a.code;
      page = page_back a h i;
      used = word_two a.used [] h.used i;
      charge = long_four a.charge [] h.charge i;
    }

line_back : (l : Line) → LineFits l → line_of (line_bytes l) ≡ l
unfolding line_of line_bytes word byte two
line_back l h = λ i. record { moment = word_two l.moment [] h.moment i; op = word_two l.op [] h.op i }

-- a section of b, written behind `before`, is read
section_back
    : {A : Type 0} (dec : List ℕ → A) (enc : A → List ℕ) (size : ℕ) {at : ℕ} {b : List ℕ} (xs : List A) (before after : List ℕ)
    → ((x : A) → length (enc x) ≡ size)
    → Each (λ x. dec (enc x) ≡ x) xs
    → length before ≡ at
    → b ≡ before ++ (each enc xs ++ after)
    → map dec (parts (length xs) size (drop at b)) ≡ xs
section_back dec enc size {at = at} xs before after wide back start e =
    ap (map dec) (section enc size before after (every wide xs) refl start e) ∙ map_back dec enc back

-- no charge file is longer than the longest job
file-length : (o : Option (List ℕ)) → ((f : List ℕ) → o ≡ Some f → job_fault f ≡ None) → length (file_bytes o) ≤ longest
unfolding file_bytes
file-length None h = omega arith
file-length (Some f) h = let s = accepted_header f (h f refl) in omega (arith, s.laid.size, total_most (header_of f) s.limits)

-- the header of the bytes b is that of the result r
pub record HeaderTells (b : List ℕ) (r : Result) : Type 0 where
  pub version : word b result_version_at ≡ r.version
  pub answer_count : word b answer_count_at ≡ length r.answers
  pub line_count : word b line_count_at ≡ length r.log
  pub unended : word b unended_at ≡ r.unended
  pub answers : long b answers_offset_at ≡ answers_offset
  pub log : long b log_offset_at ≡ log_offset (length r.answers)
  pub file : long b file_offset_at ≡ offset_field r.file (file_offset (length r.answers) (length r.log))
  pub total : long b result_total_at ≡ r.total

-- the charge file f stands in the bytes b of a result, from its offset to the total
pub record Filed (b f : List ℕ) : Type 0 where
  pub there : long b file_offset_at ≡ 0 → ⊥
  pub ordered : long b file_offset_at ≤ long b result_total_at
  pub within : long b result_total_at ≤ length b
  pub part : file_part b ≡ f

module _ (m : ℕ) (r : Result) (most : m ≤ max_ops) (fits : ResultFits m r) (post : List ℕ) where
  -- the bytes, and what stands behind the header
  abbrev bytes : List ℕ
  bytes = encode_result r ++ post

  abbrev H : List ℕ
  H = result_header r

  abbrev A : List ℕ
  A = each answer_bytes r.answers

  abbrev L : List ℕ
  L = each line_bytes r.log

  abbrev F : List ℕ
  F = file_bytes r.file

  -- where the log and the charge file begin
  abbrev log_start : ℕ
  log_start = log_offset (length r.answers)

  abbrev file_start : ℕ
  file_start = file_offset (length r.answers) (length r.log)

  header_first : bytes ≡ H ++ (A ++ (L ++ (F ++ post)))
  unfolding encode_result
  header_first = simp append_assoc

  to_log : length (H ++ A) ≡ log_start
  unfolding log_offset
  to_log = rw (length-append, length-result_header, length-answers)

  to_file : length (H ++ A ++ L) ≡ file_start
  unfolding file_offset
  to_file = rw (length-append, to_log, length-lines)

  few : length r.answers ≤ 256
  few = omega (arith, fits.count)

  file-small : file_start < 65536
  unfolding file_offset log_offset
  file-small = omega (arith, few, fits.lines)

  log-small : log_start < 2 ^ 32
  unfolding log_offset
  log-small = omega (arith, few)

  field_small : (o : Option (List ℕ)) → offset_field o file_start < 2 ^ 32
  unfolding offset_field
  field_small None = omega arith
  field_small (Some f) = omega (arith, file-small)

  pub header_back : HeaderTells bytes r
  unfolding result_header long word byte four two
  header_back =
      rw header_first
      (record {
        version = word_two r.version [] fits.version;
        answer_count = word_two (length r.answers) [] (omega (arith, few));
        line_count = word_two (length r.log) [] (omega (arith, fits.lines));
        unended = word_two r.unended [] fits.unended;
        answers = refl;
        log = long_four log_start [] log-small;
        file = long_four (offset_field r.file file_start) [] (field_small r.file);
        total = long_four r.total [] (omega (arith, fits.total, file-small, file-length r.file fits.file));
      })

  -- the sections
  answers_back : answers_in bytes ≡ r.answers
  unfolding answers_in
  answers_back =
      rw (header_back.answer_count, header_back.answers)
      (section_back answer_of answer_bytes 8 r.answers H (L ++ (F ++ post)) length-answer (each_imp answer_back fits.answers) (length-result_header r) header_first)

  log_back : log_in bytes ≡ r.log
  unfolding log_in
  log_back =
      rw (header_back.line_count, header_back.log)
      (section_back line_of line_bytes 4 r.log (H ++ A) (F ++ post) length_line (each_imp line_back fits.log) to_log (header_first ∙ simp append_assoc))

  -- no charge file, and a charge file: its bytes stand from its offset to the total
  pub unfiled : r.file ≡ None → long bytes file_offset_at ≡ 0
  unfolding offset_field
  unfiled e = header_back.file ∙ ap (λ o. offset_field o file_start) e

  file_behind : bytes ≡ H ++ A ++ L ++ (F ++ post)
  file_behind = header_first ∙ simp append_assoc

  file_there : drop file_start bytes ≡ F ++ post
  file_there = rw file_behind (drop_at (H ++ A ++ L) (F ++ post) file_start to_file)

  to_end : length bytes ≡ file_start + length F + length post
  to_end = ap length file_behind ∙ rw (length-append, to_file, length-append) (omega arith)

  pub filed : (f : List ℕ) → r.file ≡ Some f → Filed bytes f
  unfolding file_part offset_field file_bytes file_offset log_offset
  filed f e =
      let at : long bytes file_offset_at ≡ file_start = header_back.file ∙ ap (λ o. offset_field o file_start) e in
      let n : length F ≡ length f = ap (λ o. length (file_bytes o)) e in
      let end : long bytes result_total_at ≡ file_start + length f = header_back.total ∙ fits.total ∙ ap (λ k. file_start + k) n in
      record {
        there = λ z. omega arith;
        ordered = omega arith;
        within = omega (arith, to_end);
        part = rw (end, at, file_there) (ap (λ o. take (file_start + length f - file_start) (file_bytes o ++ post)) e ∙ take_at f post (file_start + length f - file_start) (omega arith));
      }

  file_back : (o : Option (List ℕ)) → r.file ≡ o → file_in bytes ≡ o
  unfolding file_in if
  file_back None e = rw (eq-eqb (long bytes file_offset_at) 0 (unfiled e))
  file_back (Some f) e = let k = filed f e in rw (ne_eqb (long bytes file_offset_at) 0 k.there, k.part)

  -- WHAT IS WRITTEN COMES BACK
  pub result_back : read_result bytes ≡ r
  unfolding read_result
  result_back =
      λ i.
      record {
        version = header_back.version i;
        unended = header_back.unended i;
        total = header_back.total i;
        answers = answers_back i;
        log = log_back i;
        file = file_back r.file refl i;
      }
