-- Bytes that begin a page: records written behind the head, and the page's image once it is closed.
use Rattle.std.specs.Prelude.{◌≡◌, refl, List, [], ◌∷◌, ◌++◌, ℕ, zero, suc, ◌+◌, ◌-◌, ◌*◌, ◌≤◌, ◌<◌, length, set, replicate}
use Rattle.std.proofs.Common.{sym, ◌∙◌, inl, inr, ⊎_elim, append_assoc, arith, length-append}
use Rattle.std.proofs.lemmas.List.{length-replicate}
use Rattle.spec.specs.declared.Rec.{Rec}
use Rattle.spec.specs.Basics.{each}
use Rattle.spec.specs.Bytes.{byte, two, four, long}
use Rattle.spec.specs.File.{put_in}
use Rattle.spec.specs.Job.{record_size, page_size}
use Rattle.spec.specs.Encode.{record_bytes, page_bytes}
use Rattle.spec.specs.Decode.{page_of}
use Rattle.spec.specs.Split.{added}
use Rattle.laws.specs.Turns.CallsRise.{put_length}
use Rattle.laws.specs.Codec.Parts.{each_snoc}
use Rattle.laws.specs.Codec.Sections.{length_record, length-records}
use Rattle.wire.specs.Over.{over}
use Rattle.wire.specs.OverLaws.{over_none, over-over, over_swap, over_whole, length_over}
use Rattle.wire.specs.Reads.{Apart, over_long, long_over_other}
use Rattle.page.specs.Room.{room, Sound}
use Rattle.page.specs.View.{record_at, records_from, record_read, records-none, records-cons, records_all, records-length}
use Rattle.page.specs.Image.{closed}

-- a record by its two numbers
pub over_record : (s : List ℕ) (at : ℕ) (r : Rec) → over (over s at (four r.call)) (at + 4) (four r.charge) ≡ over s at (record_bytes r)
unfolding record_bytes four two
over_record s at r = over-over (four r.call) (four r.charge) s at (at + 4) refl

-- one record more behind m others
pub over_more
    : (s : List ℕ) (rs : List Rec) (m : ℕ) (r : Rec)
    → length rs ≡ m
    → over (over s 4 (each record_bytes rs)) (page_size m) (record_bytes r) ≡ over s 4 (each record_bytes (rs ++ (r ∷ [])))
over_more s rs m r e =
    rw (each_snoc record_bytes rs r)
    (over-over (each record_bytes rs) (record_bytes r) s 4 (page_size m) (omega (arith, length-records rs)))

-- a record apart from what is written is as it was
pub record_other : (s x : List ℕ) (at j : ℕ) → Apart (page_size j) record_size at (length x) → record_at (over s at x) j ≡ record_at s j
record_other s x at j h =
    record_read (over s at x) j
    ∙ rw (long_over_other x s at (4 + 8 * j) (part 0 (omega arith)), long_over_other x s at (8 + 8 * j) (part 4 (omega arith))) (sym (record_read s j))
  where
    part : (k : ℕ) → k + 4 ≤ 8 → Apart (4 + k + 8 * j) 4 at (length x)
    part k l = ⊎_elim (λ u. inl (omega arith)) (λ u. inr (omega arith)) h

-- ---- records written where they stand change nothing: this is where a byte's bound is used

own : (s : List ℕ) (i : ℕ) → ((k : ℕ) → byte s k < 256) → over s (page_size i) (record_bytes (record_at s i)) ≡ s
own s i b =
    let e : 4 + 8 * i + 4 ≡ 8 + 8 * i = omega arith in
    rw (record_read s i, ← over_record s (page_size i) (record { call = long s (4 + 8 * i); charge = long s (8 + 8 * i) }), over_long s (4 + 8 * i) b, e)
    (over_long s (8 + 8 * i) b)

pub owns : (s : List ℕ) (i n : ℕ) → ((k : ℕ) → byte s k < 256) → over s (page_size i) (each record_bytes (records_from s i n)) ≡ s
unfolding each
owns s i zero b = rw (records-none s i) (over_none s (page_size i))
owns s i (suc n) b =
    let more = over-over (record_bytes (record_at s i)) (each record_bytes (records_from s (suc i) n)) s (page_size i) (page_size (suc i)) (omega (arith, length_record (record_at s i))) in
    rw (records-cons s i n) (sym more ∙ rw (own s i b) (owns s (suc i) n b))

-- ---- closed: the page's image

pub over_head : (s : List ℕ) (d n pattern : ℕ) → over (set (set s 0 d) 1 n) 2 (two pattern) ≡ over s 0 (d ∷ n ∷ two pattern)
unfolding over
over_head s d n pattern = refl

pub closed_image
    : (s : List ℕ) (rs : List Rec) (d n pattern : ℕ)
    → length s ≡ page_size (room (length s))
    → length rs ≡ n
    → n ≤ room (length s)
    → closed (over s 4 (each record_bytes rs)) d n pattern
    ≡ page_bytes (room (length s)) (record { depth = d; pattern = pattern; records = rs })
unfolding closed page_bytes two
closed_image s rs d n pattern e f h =
    let x = each record_bytes rs in
    let head : List ℕ = d ∷ n ∷ two pattern in
    let gap : length (over s 4 x) - page_size n ≡ 8 * (room (length s) - n) = omega (arith, length_over s 4 x) in
    let z : List ℕ = replicate (8 * (room (length s) - n)) 0 in
    let zeros : length z ≡ 8 * (room (length s) - n) = length-replicate (8 * (room (length s) - n)) 0 in
    let all : length (head ++ (x ++ z)) ≡ length s = omega (arith, length-append x z, length-records rs) in
    rw (gap, over-over x z s 4 (page_size n) (omega (arith, length-records rs)), over_swap head (x ++ z) s 0 4 (omega arith), over-over head (x ++ z) s 0 4 refl, over_whole (head ++ (x ++ z)) s all, f)
    (sym (append_assoc head x z))

-- one record more, in its place among a page's own
pub added_image
    : (s : List ℕ) (r : Rec) (n : ℕ)
    → Sound s
    → n ≡ byte s 1
    → n < room (length s)
    → closed (over s 4 (each record_bytes (put_in (records_from s 0 n) r))) (page_of s).depth (n + 1) (page_of s).pattern
    ≡ page_bytes (room (length s)) (added (page_of s) r)
unfolding added
added_image s r n o e h =
    rw (e, records_all s)
    (closed_image s (put_in (records_from s 0 (byte s 1)) r) (page_of s).depth (byte s 1 + 1) (page_of s).pattern o.size
    (omega (arith, put_length (records_from s 0 (byte s 1)) r, records-length s 0 (byte s 1)))
    (omega arith))
