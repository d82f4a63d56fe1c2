-- The loop that keeps some of a page's records in place, turn by turn.
use Rattle.std.specs.Prelude.{◌≡◌, Bool, true, false, List, [], ◌∷◌, ◌++◌, ℕ, zero, suc, ◌+◌, ◌*◌, ◌≤◌, ◌<◌, length, take, drop}
use Rattle.std.proofs.Common.{sym, ap, ◌∙◌, inr, append-nil, zero-add, add-one, arith, length-append, drop_at, length-take-le}
use Rattle.spec.specs.declared.Rec.{Rec}
use Rattle.spec.specs.Basics.{each, filter, Each, end, next}
use Rattle.spec.specs.Bytes.{byte}
use Rattle.spec.specs.File.{put_in}
use Rattle.spec.specs.Job.{page_size}
use Rattle.spec.specs.Encode.{record_bytes, page_bytes}
use Rattle.spec.specs.Decode.{record_of, page_of}
use Rattle.laws.specs.Tools.{each_imp, filter_each, filter-le}
use Rattle.laws.specs.Turns.CallsRise.{put_length}
use Rattle.laws.specs.Codec.Tools.{every, each_places}
use Rattle.laws.specs.Codec.Parts.{parts_each}
use Rattle.laws.specs.Codec.Numbers.{long_lt}
use Rattle.laws.specs.Codec.Sections.{length_record, length-records}
use Rattle.laws.specs.Codec.Back.{RecFits, record_back, map_back}
use Rattle.wire.specs.Over.{over}
use Rattle.wire.specs.OverLaws.{over_none, over_again, over_parts, length_over}
use Rattle.page.specs.View.{record_at, records_from, record_read, records_all, records-none, records-cons, records_snoc, records-length}
use Rattle.page.specs.Room.{room, Sound}
use Rattle.page.specs.Image.{closed}
use Rattle.page.specs.Keep.{Kept}
use Rattle.page.specs.Lists.{filter-nil, filter-take, filter_skip, filter_join}
use Rattle.page.specs.ImageLaws.{over_more, record_other, closed_image}

pub kept-start : (f : Rec → Bool) (s : List ℕ) → Kept f s s 0 0
unfolding each
kept-start f s = record { many = rw (records-none s 0, filter-nil f); bytes = rw (records-none s 0, filter-nil f) (sym (over_none s 4)) }

module _ {f : Rec → Bool} {s t : List ℕ} {m j : ℕ} (k : Kept f s t m j) where
  pub kept-few : m ≤ j
  kept-few = omega (arith, k.many, filter-le f (records_from s 0 j), records-length s 0 j)

  pub kept-length : length t ≡ length s
  kept-length = ap length k.bytes ∙ length_over s 4 (each record_bytes (filter f (records_from s 0 j)))

  -- a record that is not read yet is as it was
  pub kept_behind : record_at t j ≡ record_at s j
  kept_behind =
      let x = filter f (records_from s 0 j) in
      ap (λ (l : List ℕ). record_at l j) k.bytes ∙ record_other s (each record_bytes x) 4 j (inr (omega (arith, length-records x, k.many, kept-few)))

  one_more : filter f (records_from s 0 (j + 1)) ≡ filter f (records_from s 0 j) ++ filter f (record_at s j ∷ [])
  one_more = rw (add-one, records_snoc s 0 j, zero-add) (filter_join f (records_from s 0 j) (record_at s j ∷ []))

  pub kept-skip : f (record_at s j) ≡ false → Kept f s t m (j + 1)
  kept-skip e =
      let same : filter f (records_from s 0 (j + 1)) ≡ filter f (records_from s 0 j) =
      one_more ∙ rw (filter_skip f (record_at s j) [] e, filter-nil f) (append-nil (filter f (records_from s 0 j))) in
      record { many = rw same k.many; bytes = rw same k.bytes }

  pub kept-take : f (record_at s j) ≡ true → Kept f s (over t (page_size m) (record_bytes (record_at s j))) (m + 1) (j + 1)
  kept-take e =
      let x = filter f (records_from s 0 j) in
      let more : filter f (records_from s 0 (j + 1)) ≡ x ++ (record_at s j ∷ []) = one_more ∙ rw (filter-take f (record_at s j) [] e, filter-nil f) in
      record {
        many = rw (more, length-append) (omega (arith, k.many));
        bytes = rw (k.bytes, more) (over_more s x m (record_at s j) k.many);
      }

-- ---- records written are read back

record_fits : (s : List ℕ) (i : ℕ) → ((k : ℕ) → byte s k < 256) → RecFits (record_at s i)
unfolding byte
record_fits s i b =
    let h = (each_places s 0).1 (λ k l. b k) in
    rw (record_read s i) (record { call = long_lt s h (4 + 8 * i); charge = long_lt s h (8 + 8 * i) })

pub records-fit : (s : List ℕ) (i n : ℕ) → ((k : ℕ) → byte s k < 256) → Each RecFits (records_from s i n)
records-fit s i zero b = rw (records-none s i) end
records-fit s i (suc n) b = rw (records-cons s i n) (next (record_fits s i b) (records-fit s (suc i) n b))

pub records_back : (s : List ℕ) (x : List Rec) (m : ℕ) → length x ≡ m → Each RecFits x → page_size m ≤ length s → records_from (over s 4 (each record_bytes x)) 0 m ≡ x
unfolding records_from
records_back s x m e h l =
    let y = each record_bytes x in
    let cut = over_parts y s 4 (omega (arith, length-records x)) in
    let tail = ap (drop 4) cut ∙ drop_at (take 4 s) (y ++ drop (4 + length y) s) 4 (length-take-le 4 s (omega arith)) in
    rw (tail, ← e, parts_each record_bytes 8 x (drop (4 + length y) s) (every length_record x)) (map_back record_of record_bytes (each_imp record_back h))

-- ---- all records were seen: how many were kept; the page's image, once it is closed; and with one record more

pub kept_all : {f : Rec → Bool} {s t : List ℕ} {m : ℕ} → Kept f s t m (byte s 1) → length (filter f (page_of s).records) ≡ m
kept_all {f} {s} k = rw (records_all s) k.many

module _ {f : Rec → Bool} {s t : List ℕ} {m : ℕ} (k : Kept f s t m (byte s 1)) (o : Sound s) (d pattern : ℕ) where
  pub kept_image : closed t d m pattern ≡ page_bytes (room (length s)) (record { depth = d; pattern = pattern; records = filter f (page_of s).records })
  kept_image =
      rw (k.bytes, records_all s)
      (closed_image s (filter f (records_from s 0 (byte s 1))) d m pattern o.size k.many (omega (arith, kept-few k, o.few)))

  pub kept_image_more
      : (r : Rec)
      → ((k : ℕ) → byte s k < 256)
      → m < room (length s)
      → closed (over t 4 (each record_bytes (put_in (records_from t 0 m) r))) d (m + 1) pattern
      ≡ page_bytes (room (length s)) (record { depth = d; pattern = pattern; records = put_in (filter f (page_of s).records) r })
  kept_image_more r b h =
      let x = filter f (records_from s 0 (byte s 1)) in
      let fits : Each RecFits x = filter_each f (records_from s 0 (byte s 1)) (λ a w u. w) (records-fit s 0 (byte s 1) b) in
      let back : records_from t 0 m ≡ x = rw k.bytes (records_back s x m k.many fits (omega (arith, o.size))) in
      let more = put_length x r in
      rw (back, k.bytes, over_again (each record_bytes x) (each record_bytes (put_in x r)) s 4 (omega (arith, length-records x, length-records (put_in x r), more)), records_all s)
      (closed_image s (put_in x r) d (m + 1) pattern o.size (omega (arith, more, k.many)) (omega arith))
