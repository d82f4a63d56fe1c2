-- The parts of a result, as they are written, are the result's bytes.
use Rattle.std.specs.Prelude.{◌≡◌, List, ◌++◌, map, ℕ, ◌+◌, ◌*◌, ◌≤◌, take, drop, Option, None, Some}
use Rattle.std.proofs.Math.Path.{refl, sym}
use Rattle.std.proofs.Common.{ap, ◌∙◌, append_assoc, arith, length-append, take-append-drop, eq-eqb, ne_eqb}
use Rattle.std.proofs.Math.ListN.{length, length-map}
use Rattle.spec.specs.Basics.{each}
use Rattle.spec.specs.Bytes.{two, four}
use Rattle.spec.specs.Encode.{encode_file}
use Rattle.spec.specs.State.{State}
use Rattle.spec.specs.Result.{result_version, told_of, lines_from, log_of, Result, log_offset, file_offset, offset_field, file_bytes, file_left, result_of, answer_bytes, line_bytes, result_header, encode_result}
use Rattle.laws.specs.Tools.{if-true, if-false}
use Rattle.laws.specs.Codec.Sizes.{length-result_header, length-answers, length-lines, length-result}
use Rattle.wire.specs.Over.{over}
use Rattle.wire.specs.OverLaws.{over_none, over-over}
use Rattle.wire.specs.Parts.{length_part, over_part}
use Rattle.wire.specs.Joined.{over_before}
use Rattle.result.specs.Finish.{Heads, Ready, Finished}
use Rattle.result.specs.Lines.{LogWritten}

-- the header, in two pieces
pub result_header_lem
    : {s₁ s₂ : List ℕ} (s : List ℕ) (r : Result) (m lines under file total : ℕ)
    → s₁ ≡ over s 0 (two result_version ++ two m ++ two lines ++ two under)
    → s₂ ≡ over s₁ 8 (four 24 ++ four (24 + 8 * m) ++ four file ++ four total)
    → Heads r m lines under file total
    → s₂ ≡ over s 0 (result_header r)
unfolding result_header log_offset two four
result_header_lem s r m lines under file total p q h =
    let counts : List ℕ = two result_version ++ two m ++ two lines ++ two under in
    let offsets : List ℕ = four 24 ++ four (24 + 8 * m) ++ four file ++ four total in
    q ∙ rw (p, over-over counts offsets s 0 8 refl, h.version, ← h.answers, ← h.log, ← h.unended, ← h.offset, ← h.end)

-- ---- the whole

-- the place behind the log of a result with m answers
abbrev log_end : ℕ → ℕ → ℕ
log_end m lines = 24 + 8 * m + 4 * lines

-- what stands at a place already
stands : (s x : List ℕ) (a n : ℕ) → take n (drop a s) ≡ x → a + n ≤ length s → over s a x ≡ s
stands s x a n e h =
    let l : length x ≡ n = ap length (sym e) ∙ length_part s a n h in
    sym (over_part s x a n l h) ∙ rw (← e, take-append-drop n (drop a s), take-append-drop a s)

regroup : (a b c d : List ℕ) → a ++ (b ++ c ++ d) ≡ a ++ b ++ c ++ d
regroup a b c d = simp append_assoc

module _ {s₁ s₂ s₃ : List ℕ} (s H A B F : List ℕ) (at end : ℕ) where
  -- log B, charge file F and header H are written around the answers A
  pieces
      : take (length A) (drop 24 s) ≡ A
      → s₁ ≡ over s at B
      → s₂ ≡ over s₁ end F
      → s₃ ≡ over s₂ 0 H
      → length H ≡ 24
      → at ≡ 24 + length A
      → end ≡ at + length B
      → end ≤ length s
      → s₃ ≡ over s 0 (H ++ A ++ B ++ F)
  pieces a p q r h e f l =
      let one : s₁ ≡ over s 24 (A ++ B)
      = p ∙ ap (λ (x : List ℕ). over x at B) (sym (stands s A 24 (length A) a (omega arith))) ∙ over-over A B s 24 at e in
      let two : s₂ ≡ over s 24 (A ++ B ++ F) = q ∙ rw one (over-over (A ++ B) F s 24 end (rw length-append (omega arith))) in
      r ∙ rw two (over_before s H (A ++ B ++ F) 0 24 (omega arith)) ∙ ap (over s 0) (regroup H A B F)

-- a result r, whose answers stand in the buffer b
finished
    : {b b₁ b₂ b₃ : List ℕ} {m lines under file total : ℕ} (r : Result)
    → take (8 * m) (drop 24 b) ≡ each answer_bytes r.answers
    → b₁ ≡ over b (24 + 8 * m) (each line_bytes r.log)
    → b₂ ≡ over b₁ (log_end m lines) (file_bytes r.file)
    → Heads r m lines under file total
    → log_end m lines + length (file_bytes r.file) ≡ total
    → b₃ ≡ over b₂ 0 (result_header r)
    → total ≤ length b
    → Finished r b b₃ total
unfolding encode_result
finished {b} {m = m} {lines = lines} r a p q h t v l =
    let A : List ℕ = each answer_bytes r.answers in
    let B : List ℕ = each line_bytes r.log in
    let F : List ℕ = file_bytes r.file in
    let n : length A ≡ 8 * m = length-answers r.answers ∙ (omega (arith, h.answers)) in
    let k : length B ≡ 4 * lines = length-lines r.log ∙ (omega (arith, h.log)) in
    record {
      bytes =
          pieces b (result_header r) A B F (24 + 8 * m) (log_end m lines) (rw n a) p q v (length-result_header r)
          (omega arith)
          (omega arith)
          (omega arith);
      total = omega (arith, length-result r, h.answers, h.log);
      fits = l;
    }

-- the run is over, and its log is written
module _ {s : State} {g c P m under : ℕ} {b b₁ w : List ℕ} {lines : ℕ} (y : Ready s g c P m under b w) (l : LogWritten w m b (24 + 8 * m) b₁ lines) where
  heads
      : (file total : ℕ)
      → offset_field (result_of s).file (log_end m lines) ≡ file
      → log_end m lines + length (file_bytes (result_of s).file) ≡ total
      → Heads (result_of s) m lines under file total
  unfolding result_of log_of file_offset log_offset
  heads file total e f =
      let a : length (map told_of s.rows) ≡ m = length-map s.rows told_of ∙ y.logged.count in
      let k : length (lines_from s.now 0 s.rows) ≡ lines = sym (l.lines s.rows s.now y.logged) in
      record {
        version = refl;
        answers = a;
        log = k;
        unended = y.unended;
        offset = rw (a, k) e;
        end = rw (y.logged.count, k) f;
      }

  written : b₁ ≡ over b (24 + 8 * m) (each line_bytes (result_of s).log)
  unfolding result_of log_of
  written = l.bytes s.rows s.now y.logged

  -- with the charge file F, or none
  whole
      : {b₂ b₃ : List ℕ} {file total : ℕ} (F : Option (List ℕ))
      → (result_of s).file ≡ F
      → b₂ ≡ over b₁ (log_end m lines) (file_bytes F)
      → offset_field F (log_end m lines) ≡ file
      → log_end m lines + length (file_bytes F) ≡ total
      → ((r : Result) → Heads r m lines under file total → b₃ ≡ over b₂ 0 (result_header r))
      → total ≤ length b
      → Finished (result_of s) b b₃ total
  unfolding result_of
  whole {file = file} {total = total} F e q o t h f =
      let H : Heads (result_of s) m lines under file total = heads file total (rw e o) (rw e t) in
      finished (result_of s) y.answers written (rw e q) H (rw e t) (h (result_of s) H) f

  pub without-file
      : {b₂ : List ℕ}
      → (under ≡ 0 → ⊥)
      → ((r : Result) → Heads r m lines under 0 (log_end m lines) → b₂ ≡ over b₁ 0 (result_header r))
      → log_end m lines ≤ length b
      → Finished (result_of s) b b₂ (log_end m lines)
  unfolding result_of file_left file_bytes offset_field
  without-file u h f =
      whole None (if-false _ _ (ne_eqb _ _ (λ e. u (sym y.unended ∙ e)))) (sym (over_none b₁ (log_end m lines))) refl (omega arith) h f

  pub with_file
      : {b₂ b₃ : List ℕ} (n : ℕ)
      → under ≡ 0
      → b₂ ≡ over b₁ (log_end m lines) (encode_file s.file)
      → length (encode_file s.file) ≡ n
      → ((r : Result) → Heads r m lines under (log_end m lines) (log_end m lines + n) → b₃ ≡ over b₂ 0 (result_header r))
      → log_end m lines + n ≤ length b
      → Finished (result_of s) b b₃ (log_end m lines + n)
  unfolding result_of file_left file_bytes offset_field
  with_file n u q e h f = whole (Some (encode_file s.file)) (if-true _ _ (eq-eqb _ _ (y.unended ∙ u))) q refl (omega arith) h f
