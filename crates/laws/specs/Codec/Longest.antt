-- No job is longer than 53,280 bytes, and one byte more already decides: what is printed of any bytes is what is printed of their first 53,281.
use Rattle.std.specs.Prelude.{ℕ, suc, ◌*◌, ◌<◌, ◌≤◌, ◌≡◌, refl, List, Bool, true, not, ◌||◌, length, take, eqb, Option, None, Some}
use Rattle.std.proofs.Common.{sym, ap, ◌∙◌, mul-le-mul, arith, pow_mono, take_all, ne_eqb}
use Rattle.std.proofs.Math.Logic.{by_cases}
use Rattle.std.proofs.Math.Bool.{or-true}
use Rattle.std.proofs.Math.Decide.{dec_le}
use Rattle.std.proofs.Math.Seq.{length-take-le}
use Rattle.spec.specs.Basics.{or_else}
use Rattle.spec.specs.Job.{Header, version_at, g_at, c_at, limit_at, used_at, op_count_at, turn_count_at, directory_offset_at, table_offset_at, ops_offset_at, turns_offset_at, total_at, page_size, table_offset, ops_offset, turns_offset, total, file_length}
use Rattle.spec.specs.Decode.{header_of}
use Rattle.spec.specs.Check.{Fault, short, wrong_version, over_limit, wrong_offset, numbered, first_row, job_fault}
use Rattle.spec.specs.Report.{printed_by, printed}
use Rattle.spec.specs.Tidied.{longest_file}
use Rattle.laws.specs.Codec.Tools.{failed, among_none, among_end}
use Rattle.laws.specs.Codec.Parts.{byte_in, word_in, long_in}
use Rattle.laws.specs.Codec.Rows.{Limits, limits_said, accepted_header}

-- the length of the longest job: the deepest directory, the most and largest pages; the most operations and turns
abbrev pub longest : ℕ
longest = 53280

pub file-most : (h : Header) → Limits h → file_length h ≤ longest_file
unfolding file_length ops_offset table_offset
file-most h l =
    let g = pow_mono {i = h.g} {j = 8} l.depth in
    let c : page_size h.c ≤ 68 = omega (arith, l.capacity.1) in
    let p : page_size h.c * h.limit ≤ 68 * 256 = mul-le-mul c l.pages.1 in
    omega arith

pub total_most : (h : Header) → Limits h → total h ≤ longest
unfolding total turns_offset file_length
total_most h l = omega (arith, file-most h l, l.ops, l.turns)

-- what comes after a row matters only where the row does not hold
goes_on : (n : ℕ) (x : Option ℕ) (y z : Option Fault) → (x ≡ None → y ≡ z) → or_else (numbered n x) y ≡ or_else (numbered n x) z
unfolding or_else numbered
goes_on n None y z h = h refl
goes_on n (Some p) y z h = refl

-- BYTES LONGER THAN EVERY JOB, and their first n, which are still longer
module _ (b : List ℕ) (n : ℕ) (more : longest < n) (within : n ≤ length b) where
  abbrev front : List ℕ
  front = take n b

  header_kept : header_of front ≡ header_of b
  unfolding header_of
  header_kept =
      rw
      (byte_in n 0 b g_at (omega arith), byte_in n 0 b c_at (omega arith), word_in n 0 b limit_at (omega arith), word_in n 0 b used_at (omega arith), word_in n 0 b op_count_at (omega arith), word_in n 0 b turn_count_at (omega arith))

  not_short : (c : List ℕ) → longest < length c → short c ≡ None
  unfolding short
  not_short c l = simp failed (omega arith)

  short-kept : short front ≡ short b
  short-kept = not_short front (omega (arith, length-take-le n b within)) ∙ sym (not_short b (omega arith))

  version-kept : wrong_version front ≡ wrong_version b
  unfolding wrong_version
  version-kept = rw (word_in n 0 b version_at (omega arith))

  limit-kept : over_limit front ≡ over_limit b
  unfolding over_limit
  limit-kept = rw header_kept

  -- within the limits, the length is not the total
  module _ (limits : Limits (header_of b)) where
    not_total : (x : Bool) (k : ℕ) → longest < k → (x || not (eqb k (total (header_of b)))) ≡ true
    not_total x k l = rw (ne_eqb k (total (header_of b)) (λ e. omega (arith, total_most (header_of b) limits)), or-true x)

    offset_kept : wrong_offset front ≡ wrong_offset b
    unfolding wrong_offset
    offset_kept =
        rw
        (header_kept, long_in n 0 b directory_offset_at (omega arith), long_in n 0 b table_offset_at (omega arith), long_in n 0 b ops_offset_at (omega arith), long_in n 0 b turns_offset_at (omega arith), long_in n 0 b total_at (omega arith))
        (rw (not_total _ (length front) (omega (arith, length-take-le n b within)), not_total _ (length b) (omega arith)))

    offset_wrong : wrong_offset b ≡ None → ⊥
    unfolding wrong_offset
    offset_wrong e = let laid = simp (failed, among_none, among_end) at e in omega (arith, laid, total_most (header_of b) limits)

  fault_kept : job_fault front ≡ job_fault b
  unfolding job_fault first_row
  fault_kept =
      rw (short-kept, version-kept, limit-kept)
      (goes_on _ _ _ _
      (λ a.
      goes_on _ _ _ _
      (λ v. goes_on _ _ _ _ (λ e. let limits = (limits_said b).0 e in rw (offset_kept limits) (goes_on _ _ _ _ (λ o. absurd (offset_wrong limits o)))))))

  -- so both are refused alike
  fault : (o : Option Fault) → job_fault b ≡ o → (f : Fault) × (job_fault b ≡ Some f)
  fault None e = absurd (let h = accepted_header b e in omega (arith, h.laid.size, total_most (header_of b) h.limits))
  fault (Some f) e = (f, e)

  refused-kept : printed front ≡ printed b
  unfolding printed printed_by
  refused-kept = let e = (fault (job_fault b) refl).1 in rw (fault_kept, e)

-- WHAT IS PRINTED of any bytes is what is printed of as many as `chargelog` reads
pub front_decides : (b : List ℕ) → printed (take (suc longest) b) ≡ printed b
front_decides b =
    by_cases (dec_le (length b) longest) (λ l. ap printed (take_all (suc longest) b (omega arith)))
    (λ l. refused-kept b (suc longest) (omega arith) (omega arith))
