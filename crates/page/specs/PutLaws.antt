-- One record more among a page's: its place, the higher records moved up by one, and the bytes once it is written.
use Rattle.std.specs.Prelude.{◌≡◌, refl, List, [], ◌∷◌, ◌++◌, ℕ, suc, ◌+◌, ◌-◌, ◌*◌, ◌≤◌, ◌<◌, length, take, drop}
use Rattle.std.specs.List.{copy_within}
use Rattle.std.proofs.Common.{sym, ap, ◌∙◌, append_assoc, inl, arith, take_at, drop_at, lt-ltb, le-ltb}
use Rattle.spec.specs.declared.Rec.{Rec}
use Rattle.spec.specs.Basics.{each}
use Rattle.spec.specs.Bytes.{byte}
use Rattle.spec.specs.File.{put_in}
use Rattle.spec.specs.Job.{page_size}
use Rattle.spec.specs.Encode.{record_bytes}
use Rattle.laws.specs.Tools.{if-true, if-false, if_both}
use Rattle.laws.specs.Codec.Parts.{each_join}
use Rattle.laws.specs.Codec.Sections.{length_record, length-records}
use Rattle.wire.specs.Over.{over}
use Rattle.wire.specs.OverLaws.{over_none, over-over, over_swap, over_parts}
use Rattle.wire.specs.Parts.{part_over}
use Rattle.page.specs.View.{record_at, records_from, records-length, left_more, left_none, left_join}
use Rattle.page.specs.Put.{place_in}
use Rattle.page.specs.ImageLaws.{record_other, owns}

pub place_none : (k : ℕ) → place_in [] k ≡ 0
unfolding place_in
place_none k = refl

pub place_here : (a : Rec) (rs : List Rec) (k : ℕ) → k < a.call → place_in (a ∷ rs) k ≡ 0
unfolding place_in
place_here a rs k l = if-true _ _ (lt-ltb _ _ l)

pub place_later : (a : Rec) (rs : List Rec) (k : ℕ) → a.call ≤ k → place_in (a ∷ rs) k ≡ suc (place_in rs k)
unfolding place_in
place_later a rs k l = if-false _ _ (le-ltb _ _ l)

-- there the record is put
put_there : (rs : List Rec) (r : Rec) → put_in rs r ≡ take (place_in rs r.call) rs ++ (r ∷ drop (place_in rs r.call) rs)
unfolding put_in place_in
put_there [] r = refl
put_there (a ∷ rs) r =
    if_both (λ l i. l ≡ take i (a ∷ rs) ++ (r ∷ drop i (a ∷ rs))) (λ e. refl) (λ e. ap (λ w. a ∷ w) (put_there rs r))

-- ---- the bytes

-- one record more in front of those that are written
in_front
    : (s : List ℕ) (i : ℕ) (r : Rec) (rs : List Rec)
    → over (over s (page_size (i + 1)) (each record_bytes rs)) (page_size i) (record_bytes r) ≡ over s (page_size i) (each record_bytes (r ∷ rs))
unfolding each
in_front s i r rs =
    over_swap (record_bytes r) (each record_bytes rs) s (page_size i) (page_size (i + 1)) (omega (arith, length_record r))
    ∙ over-over (record_bytes r) (each record_bytes rs) s (page_size i) (page_size (i + 1)) (omega (arith, length_record r))

-- the records from number j up to number n, written one higher
abbrev pub up : List ℕ → ℕ → ℕ → List ℕ
up s j n = over s (page_size (j + 1)) (each record_bytes (records_from s j (n - j)))

pub up_none : (s : List ℕ) (n : ℕ) → up s n n ≡ s
unfolding each
up_none s n = rw (left_none s n n (omega arith)) (over_none s (page_size (n + 1)))

-- one more of them: number k, which is j - 1
pub up_before : (s : List ℕ) (k j n : ℕ) → j ≡ k + 1 → record_at (up s j n) k ≡ record_at s k
up_before s k j n e = record_other s _ _ k (inl (omega arith))

pub up_more : (s : List ℕ) (k j n : ℕ) → j ≡ k + 1 → k < n → over (up s j n) (page_size j) (record_bytes (record_at s k)) ≡ up s k n
up_more s k j n e l = rw (e, left_more s k n l) (in_front s (k + 1) (record_at s k) (records_from s (k + 1) (n - (k + 1))))

-- as they stand, one behind another
stood : (s : List ℕ) (i n : ℕ) → ((k : ℕ) → byte s k < 256) → page_size (i + n) ≤ length s → take (8 * n) (drop (page_size i) s) ≡ each record_bytes (records_from s i n)
stood s i n b h =
    let x = each record_bytes (records_from s i n) in
    let long : length x ≡ 8 * n = omega (arith, length-records (records_from s i n), records-length s i n) in
    rw (owns s i n b) at (part_over s x (page_size i) (8 * n) long (omega arith))

-- copied one place higher
pub moved_up
    : (s : List ℕ) (i n : ℕ)
    → ((k : ℕ) → byte s k < 256)
    → i ≤ n
    → page_size (n + 1) ≤ length s
    → copy_within s (4 + 8 * i) (4 + 8 * n) (4 + 8 * (i + 1)) ≡ up s i n
moved_up s i n b l h =
    let gap : 4 + 8 * n - (4 + 8 * i) ≡ 8 * (n - i) = omega arith in
    let x = each record_bytes (records_from s i (n - i)) in
    let long : length x ≡ 8 * (n - i) = omega (arith, length-records (records_from s i (n - i)), records-length s i (n - i)) in
    rw (gap, stood s i (n - i) b (omega arith), ← long) (append_assoc (take (page_size (i + 1)) s) x (drop (page_size (i + 1) + length x) s) ∙ sym (over_parts x s (page_size (i + 1)) (omega arith)))

-- and the record in front of them
put_here
    : (s : List ℕ) (r : Rec) (i n : ℕ)
    → i ≡ place_in (records_from s 0 n) r.call
    → i ≤ n
    → put_in (records_from s 0 n) r ≡ records_from s 0 i ++ (r ∷ records_from s i (n - i))
put_here s r i n e l =
    let low = records_from s 0 i in
    let high = records_from s i (n - i) in
    let many = records-length s 0 i in
    put_there (records_from s 0 n) r ∙ rw (← e, left_join s i n l, take_at low high i many, drop_at low high i many)

pub put_bytes
    : (s : List ℕ) (r : Rec) (i n : ℕ)
    → ((k : ℕ) → byte s k < 256)
    → i ≡ place_in (records_from s 0 n) r.call
    → i ≤ n
    → over (up s i n) (page_size i) (record_bytes r) ≡ over s 4 (each record_bytes (put_in (records_from s 0 n) r))
put_bytes s r i n b e l =
    let low = records_from s 0 i in
    let high = r ∷ records_from s i (n - i) in
    in_front s i r (records_from s i (n - i))
    ∙ ap (λ (t : List ℕ). over t (page_size i) (each record_bytes high)) (sym (owns s 0 i b))
    ∙ over-over (each record_bytes low) (each record_bytes high) s 4 (page_size i) (omega (arith, length-records low, records-length s 0 i))
    ∙ rw (put_here s r i n e l) (ap (over s 4) (sym (each_join record_bytes low high)))
