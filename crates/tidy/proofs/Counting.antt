-- The numbers of records before each entry, written one behind another; how many lie under a pattern; the least depth that leaves few enough.
use Prim.Native.Nat.{ℕ, zero, suc, ◌+◌, ◌-◌, ◌*◌, ◌/◌, ◌^◌, ◌<◌, ◌≤◌}
use mathlib.Core.Path.{◌≡◌, sym, ap, ◌∙◌}
use mathlib.Core.Logic.{by_cases}
use mathlib.Core.List.{List, [], ◌∷◌, ◌++◌, append_assoc, append-nil}
use native.Mathlib.Omega.{arith}
use native.Mathlib.Decide.{ℕ_discrete}
use native.Mathlib.Numerals.{add-one}
use lib.ListN.{length, get_or, set, take, length-set}
use lib.Seq.{get_or-set_same, get_or-set_other, take-suc, take-set-le}
use lib.Pow.{shr_lt}
use Rattle.spec.specs.File.{File}
use Rattle.spec.specs.Decode.{file_of}
use Rattle.laws.specs.Tidy.Entries.{records_at, records_before, records_under, depth_from, depth_on, depths_left}
use Rattle.laws.specs.Tidy.Spans.{before-zero, before-step, before-most, before_mono}
use Rattle.laws.specs.Tidy.EntriesOf.{entries_in}
use Rattle.laws.specs.Tidy.Depths.{depth_is, depth-next, depth_last, depth-start, depths_end, depths_step}
use Rattle.header.specs.declared.Header.{Header}
use Rattle.tidy.specs.Given.{Given, Counted}
use Rattle.tidy.proofs.Known.{ok, entries-most, capacity_is}
use Rattle.tidy.proofs.Known as known

-- those up to entry j are there
abbrev pub Upto : File → ℕ → List ℕ → Type 0
Upto f j s = (i : ℕ) → i ≤ j → get_or s i 0 ≡ records_before f i

-- the first of them is in place before anything is counted
pub upto_none : (f : File) (s : List ℕ) → get_or s 0 0 ≡ 0 → Upto f 0 s
upto_none f s z i u = let e : i ≡ 0 = omega arith in rw e (z ∙ sym (before-zero f))

-- and one more
pub sum_next : (f : File) (j sum r : ℕ) → sum ≡ records_before f j → r ≡ records_at f j → sum + r ≡ records_before f (j + 1)
sum_next f j sum r e q = rw (add-one j, before-step f j, e, q)

pub upto_next : (f : File) (s : List ℕ) (j v : ℕ) → j + 1 < length s → v ≡ records_before f (j + 1) → Upto f j s → Upto f (j + 1) (set s (j + 1) v)
upto_next f s j v l e h i u =
    by_cases (ℕ_discrete i (j + 1)) (λ (z : i ≡ j + 1). rw (z, ← e) (get_or-set_same s (j + 1) v 0 l))
    (λ z. get_or-set_other s (j + 1) i v 0 z ∙ h i (omega arith))

-- so few are they
pub sum_few : {h : Header} {b : List ℕ} (e : Given h b) (j sum : ℕ) → j ≤ 2 ^ h.depth → sum ≡ records_before (file_of b) j → sum ≤ 2048
sum_few {h} {b} e j sum l is = omega (arith, before-most (file_of b) (ok e) j (rw (known.depth_is e) l))

add-mul : (q n : ℕ) → (q + 1) * n ≡ q * n + n
add-mul q n = omega arith

-- the n entries of the pattern of l bits that begins entry j are entries, and s has the numbers of records before the first and behind the last
module _ {h : Header} {b : List ℕ} (e : Given h b) (s : List ℕ) (c : Counted (file_of b) s) (l j n : ℕ) (run : n ≡ 2 ^ (h.depth - l)) (low : l ≤ h.depth) (u : j < 2 ^ h.depth) where
  pub block : j / n * n + n ≤ 2 ^ h.depth
  block =
      let z : l + (h.depth - l) ≡ h.depth = omega arith in
      let p = shr_lt {n = j} l (h.depth - l) (rw z u) in
      let one = add-mul (j / 2 ^ (h.depth - l)) (2 ^ (h.depth - l)) in
      rw (run, ← one) (entries_in h.depth l (j / 2 ^ (h.depth - l)) low p)

  pub block-few : j / n * n + n ≤ 256
  block-few = omega (arith, block, entries-most e)

  from-is : get_or s (j / n * n) 0 ≡ records_before (file_of b) (j / n * n)
  from-is = c (j / n * n) (rw (known.depth_is e) (omega (arith, block)))

  to-is : get_or s (j / n * n + n) 0 ≡ records_before (file_of b) (j / n * n + n)
  to-is = c (j / n * n + n) (rw (known.depth_is e) block)

  pub climbs : get_or s (j / n * n) 0 ≤ get_or s (j / n * n + n) 0
  climbs = rw (from-is, to-is) (before_mono (file_of b) (j / n * n) (j / n * n + n) (omega arith))

  -- so many records lie under it
  pub under-is : get_or s (j / n * n + n) 0 - get_or s (j / n * n) 0 ≡ records_under (file_of b) l j
  unfolding records_under
  under-is = rw (from-is, to-is, run, known.depth_is e)

-- the search of the least depth that leaves at most c records: it has passed all below l
module _ {h : Header} {b : List ℕ} (e : Given h b) (j : ℕ) where
  passed : (l : ℕ) → l ≤ h.depth → ((k : ℕ) → k < l → h.capacity < records_under (file_of b) k j) → depth_on (file_of b) j ≡ depth_from ((file_of b).g - l) (file_of b) j l
  passed zero u a = depth-start (file_of b) j
  passed (suc l) u a =
      passed l (omega arith) (λ k v. a k (omega arith))
      ∙ depth-next (file_of b) j l (rw (known.depth_is e) (omega arith)) (omega (arith, capacity_is e, a l (omega arith)))

  -- it ends at the last
  pub ends : ((k : ℕ) → k < h.depth → h.capacity < records_under (file_of b) k j) → depth_on (file_of b) j ≡ h.depth
  ends a =
      let g = known.depth_is e in
      passed h.depth (omega arith) a ∙ rw (← g) (depth_last (file_of b) j)

  -- or stops at l
  pub stops : (l : ℕ) → l < h.depth → records_under (file_of b) l j ≤ h.capacity → ((k : ℕ) → k < l → h.capacity < records_under (file_of b) k j) → depth_on (file_of b) j ≡ l
  stops l u few a = depth_is (file_of b) j l (rw (known.depth_is e) (omega arith)) (λ k v. omega (arith, capacity_is e, a k v)) (omega (arith, capacity_is e))

-- ---- the depths found so far, and those from entry j on

pub depths_next
    : {h : Header} {b : List ℕ} (e : Given h b) (left : List ℕ) (k j l n : ℕ)
    → k < length left
    → j < 2 ^ h.depth
    → l ≡ depth_on (file_of b) j
    → n ≡ 2 ^ (h.depth - l)
    → take k left ++ depths_left (file_of b) j ≡ depths_left (file_of b) 0
    → take (k + 1) (set left k l) ++ depths_left (file_of b) (j + n) ≡ depths_left (file_of b) 0
depths_next {h} {b} e left k j l n u v is run all =
    let f = file_of b in
    let g = known.depth_is e in
    let one : take (k + 1) (set left k l) ≡ take k left ++ (l ∷ [])
    = rw (add-one k, take-suc (set left k l) k 0 (rw length-set u), take-set-le k left k l (omega arith), get_or-set_same left k l 0 u) in
    let more : l ∷ depths_left f (j + n) ≡ depths_left f j = rw (run, is, ← g) (sym (depths_step f j (rw g v))) in
    rw one (append_assoc (take k left) (l ∷ []) (depths_left f (j + n)) ∙ ap (λ w. take k left ++ w) more ∙ all)

pub depths_all
    : {h : Header} {b : List ℕ} (e : Given h b) (left : List ℕ) (k j : ℕ)
    → 2 ^ h.depth ≤ j
    → take k left ++ depths_left (file_of b) j ≡ depths_left (file_of b) 0
    → take k left ≡ depths_left (file_of b) 0
depths_all {h} {b} e left k j v all =
    sym (append-nil (take k left)) ∙ ap (λ w. take k left ++ w) (sym (depths_end (file_of b) j (rw (known.depth_is e) v))) ∙ all
