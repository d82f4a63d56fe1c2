-- The operations are told one by one: what the caller's loop over the rows keeps, and what it comes to.
use Rattle.std.specs.Prelude.{◌≡◌, refl, Bool, true, false, get_or, take, drop}
use Rattle.std.proofs.Common.{sym, ◌∙◌, inl, inr, add-one, pow_mono, take-suc, take_all, length-take-le}
use Rattle.std.proofs.Math.Path.{ap}
use Rattle.std.proofs.Math.Logic.{by_cases}
use mathlib.Core.List.{List, [], ◌∷◌, ◌++◌, map, map-append}
use Prim.Native.Nat.{ℕ, ◌+◌, ◌*◌, ◌^◌, ◌≤◌, ◌<◌}
use Rattle.std.proofs.Math.Decide.{ℕ_discrete}
use native.Mathlib.Omega.{arith}
use Rattle.std.proofs.Math.ListN.{length, length-map}
use Rattle.std.proofs.lemmas.Bool.{eqb-false}
use Rattle.spec.specs.Basics.{if, each}
use Rattle.spec.specs.Bytes.{word, two}
use Rattle.spec.specs.Code.{not_yet}
use Rattle.spec.specs.Split.{digit}
use Rattle.spec.specs.State.{Row, State, gone}
use Rattle.spec.specs.File.{File}
use Rattle.spec.specs.Check.{work_size}
use Rattle.spec.specs.Result.{told_of, answer_bytes, answers_offset, under_way, count_under, result_of, encode_result}
use Rattle.laws.specs.Tools.{if_case, if_both}
use Rattle.laws.specs.Codec.Parts.{each_snoc}
use Rattle.laws.specs.Codec.Sizes.{length-answers, length-result}
use Rattle.wire.specs.Over.{over}
use Rattle.wire.specs.OverLaws.{length_over, over_none, over-over, over_parts, drop_over}
use Rattle.wire.specs.Reads.{Apart, byte_over_other, word_put, word_over_other}
use Rattle.wire.specs.Parts.{part_over}
use Rattle.memory.specs.Memory.{turns_at}
use Rattle.memory.specs.Places.{place-from}
use Rattle.memory.specs.Beside.{Beside, used-kept, entry_kept, part_kept}
use Rattle.result.specs.Marks.{mark_number, mark_of, mark_place, Tells}
use Rattle.result.specs.Finish.{FileShown, Ready, Finished}

-- the bytes of the marks: those of the turns of changes
abbrev pub marks_size : ℕ
marks_size = 4096

-- Of the operations rs the first i are told: the result buffer b₀ became b, the memory w₀ became w, of which only marks are new, and
-- `under` of them are begun but unfinished
pub record Telling (rs : List Row) (i : ℕ) (b₀ w₀ b w : List ℕ) (under : ℕ) : Type 0 where
  pub answers : b ≡ over b₀ answers_offset (each answer_bytes (map told_of (take i rs)))
  pub size : length b ≡ length b₀
  pub marks : (k : ℕ) → k < i → word w (mark_place k) ≡ mark_of (get_or rs k gone)
  pub rest : Beside turns_at marks_size w₀ w
  pub unended : under ≡ count_under (take i rs)

pub none_told : (rs : List Row) (b w : List ℕ) → Telling rs 0 b w b w 0
unfolding each count_under
none_told rs b w =
    record {
      answers = sym (over_none b 24);
      size = refl;
      marks = λ k l. absurd (omega arith);
      rest = record { size = refl; bytes = λ k h. refl };
      unended = refl;
    }

-- ---- one operation more

if-digit : (t : Bool) → if t 1 0 ≡ 0 + digit t
unfolding if digit
if-digit true = refl
if-digit false = refl

under_more : (rs : List Row) (r : Row) → count_under (rs ++ (r ∷ [])) ≡ count_under rs + digit (under_way r.stage)
unfolding count_under
under_more [] r = if-digit (under_way r.stage)
under_more (q ∷ rs) r =
    let ih = under_more rs r in
    if_both (λ m n. m ≡ n + digit (under_way r.stage)) (λ e. omega arith) (λ e. ih)

answers-more : (rs : List Row) (r : Row) → each answer_bytes (map told_of (rs ++ (r ∷ []))) ≡ each answer_bytes (map told_of rs) ++ answer_bytes (told_of r)
answers-more rs r = rw map-append (each_snoc answer_bytes (map told_of rs) (told_of r))

length-told : (rs : List Row) → length (each answer_bytes (map told_of rs)) ≡ 8 * length rs
length-told rs = length-answers (map told_of rs) ∙ ap (λ (n : ℕ). 8 * n) (length-map rs told_of)

mark_fits : (r : Row) → ((r.code ≡ not_yet → ⊥) → r.moment < 65535) → mark_of r < 65536
unfolding mark_of mark_number
mark_fits r h = if_case (λ (n : ℕ). n < 65536) (λ e. omega arith) (λ e. let l = h (eqb-false _ _ e) in omega arith)

-- a mark that is written, and the others
mark_more
    : (rs : List Row) (i : ℕ) (w : List ℕ)
    → i < 256
    → work_size ≤ length w
    → mark_of (get_or rs i gone) < 65536
    → ((k : ℕ) → k < i → word w (mark_place k) ≡ mark_of (get_or rs k gone))
    → (k : ℕ)
    → k < i + 1
    → word (over w (mark_place i) (two (mark_of (get_or rs i gone)))) (mark_place k) ≡ mark_of (get_or rs k gone)
unfolding mark_place two
mark_more rs i w few long fits h k l =
    by_cases (ℕ_discrete k i)
    (λ (e : k ≡ i). rw e (word_put w (1026 + 2 * i) (mark_of (get_or rs i gone)) (omega arith) fits))
    (λ e. word_over_other (two (mark_of (get_or rs i gone))) w (1026 + 2 * i) (1026 + 2 * k) (inl (omega arith)) ∙ h k (omega arith))

mark_beside : {w₀ w u : List ℕ} (i v : ℕ) → i < 256 → u ≡ over w (mark_place i) (two v) → Beside turns_at marks_size w₀ w → Beside turns_at marks_size w₀ u
unfolding mark_place two
mark_beside {w = w} i v few e o =
    record {
      size = ap length e ∙ length_over w (1026 + 2 * i) (two v) ∙ o.size;
      bytes = λ k h. rw e (byte_over_other (two v) w (1026 + 2 * i) k (near h) ∙ o.bytes k h);
    }
  where
    near : {k : ℕ} → Apart k 1 1026 4096 → Apart k 1 (1026 + 2 * i) 2
    near (inl h) = inl (omega arith)
    near (inr h) = inr (omega arith)

pub one_told
    : {rs : List Row} {i : ℕ} {b₀ w₀ b w b₁ w₁ : List ℕ} {under v : ℕ}
    → i < length rs
    → i < 256
    → work_size ≤ length w
    → (((get_or rs i gone).code ≡ not_yet → ⊥) → (get_or rs i gone).moment < 65535)
    → Telling rs i b₀ w₀ b w under
    → Tells (get_or rs i gone) i b b₁ w w₁ v
    → Telling rs (i + 1) b₀ w₀ b₁ w₁ (under + v)
one_told {rs} {i} {b₀} {w₀} {b} {w} {b₁} {w₁} {under} {v} l few long fits t o =
    let r = get_or rs i gone in
    let x : List ℕ = each answer_bytes (map told_of (take i rs)) in
    let e : take (i + 1) rs ≡ take i rs ++ (r ∷ []) = rw add-one (take-suc rs i gone l) in
    let n : length x ≡ 8 * i = length-told (take i rs) ∙ ap (λ (n : ℕ). 8 * n) (length-take-le i rs (omega arith)) in
    record {
      answers = o.answer ∙ rw (t.answers, e, answers-more (take i rs) r) (over-over x (answer_bytes (told_of r)) b₀ 24 (24 + 8 * i) (omega arith));
      size = ap length o.answer ∙ length_over b _ _ ∙ t.size;
      marks = λ k h. rw o.mark (mark_more rs i w few long (mark_fits r fits) t.marks k h);
      rest = mark_beside i (mark_of r) few o.mark t.rest;
      unended = rw (e, under_more (take i rs) r, ← t.unended, ← o.under);
    }

-- ---- all of them

-- the memory shows the same file
file-kept : {f : File} {g c P : ℕ} {w₀ w : List ℕ} → work_size ≤ length w₀ → g ≤ 8 → c ≤ 8 → P ≤ 256 → Beside turns_at marks_size w₀ w → FileShown f g c P w₀ → FileShown f g c P w
file-kept {f} {g} {c} {P} {w₀} {w} long small few many o h =
    let n : 2 ^ g ≤ 2 ^ 8 = pow_mono small in
    record {
      depth = h.depth;
      capacity = h.capacity;
      limit = h.limit;
      used = used-kept o (inl (omega arith)) ∙ h.used;
      entries = λ j l. entry_kept o j (inl (omega arith)) ∙ h.entries j l;
      pages = λ x l k. part_kept o (record { size = long; capacity = few; number = omega arith }) (inr (omega (arith, place-from c x))) ∙ h.pages x l k;
      directory = h.directory;
      table = h.table;
    }

-- a run in the state s is over, and its m operations are told
module _ {m under : ℕ} {b₀ w₀ b w : List ℕ} (s : State) (count : length s.rows ≡ m) (t : Telling s.rows m b₀ w₀ b w under) where
  all : take m s.rows ≡ s.rows
  all = take_all m s.rows (omega arith)

  pub ready
      : {g c P : ℕ}
      → 24 + 8 * m ≤ length b₀
      → work_size ≤ length w₀
      → g ≤ 8
      → c ≤ 8
      → P ≤ 256
      → FileShown s.file g c P w₀
      → ((i : ℕ) → i < length s.rows → ((get_or s.rows i gone).code ≡ not_yet → ⊥) → (get_or s.rows i gone).moment < s.now)
      → s.now ≤ 65535
      → Ready s g c P m under b w
  ready room long depth capacity pages file past turns =
      let x : List ℕ = each answer_bytes (map told_of s.rows) in
      let n : length x ≡ 8 * m = length-told s.rows ∙ ap (λ (n : ℕ). 8 * n) count in
      record {
        answers = rw (t.answers, all) (part_over b₀ x 24 (8 * m) n room);
        logged = record { count = count; marks = record { at = λ i l. t.marks i (omega arith) }; past = past; turns = turns };
        unended = rw all at (sym t.unended);
        file = file-kept long depth capacity pages t.rest file;
      }

  -- "Result bytes past the total keep their values"
  pub buffer
      : {u : List ℕ} {v : ℕ}
      → Finished (result_of s) b u v
      → u ≡ encode_result (result_of s) ++ drop (length (encode_result (result_of s))) b₀
  unfolding result_of
  buffer f =
      let E : List ℕ = encode_result (result_of s) in
      let x : List ℕ = each answer_bytes (map told_of (take m s.rows)) in
      let n : length x ≡ 8 * m = rw all (length-told s.rows ∙ ap (λ (n : ℕ). 8 * n) count) in
      let l : 24 + length x ≤ length E = omega (arith, length-result (result_of s), length-map s.rows told_of) in
      let z : 0 + length E ≡ length E = omega arith in
      f.bytes
      ∙ over_parts E b 0 (omega (arith, f.total, f.fits))
      ∙ rw z (ap (λ (y : List ℕ). E ++ y) (rw t.answers (drop_over x b₀ 24 (length E) l)))
