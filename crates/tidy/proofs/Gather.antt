-- Records put among others, one after another: those of a page, and those of the pages along the directory.
use mathlib.Core.Path.{◌≡◌, refl, sym, ap, ◌∙◌}
use mathlib.Core.List.{List, [], ◌++◌, append_assoc, append-nil}
use Prim.Native.Nat.{ℕ, zero, suc, ◌+◌, ◌-◌, ◌/◌, ◌^◌, ◌≤◌, ◌<◌}
use native.Mathlib.Nat.{zero-add}
use native.Mathlib.Numerals.{add-one}
use native.Mathlib.Omega.{arith}
use lib.Pow.{pow_pos}
use lib.ListN.{length, take, drop, length-append}
use lib.Seq.{take_all}
use Rattle.spec.specs.declared.Rec.{Rec}
use Rattle.spec.specs.Basics.{each, Each, end}
use Rattle.spec.specs.Bytes.{AreBytes, byte}
use Rattle.laws.specs.Codec.AsBytes.{are_bytes}
use Rattle.spec.specs.File.{Page, File, page_at, entry_at, put_in}
use Rattle.spec.specs.Job.{page_size, table_offset}
use Rattle.spec.specs.Encode.{record_bytes, page_bytes}
use Rattle.spec.specs.Decode.{header_of, page_parts, page_of, file_of}
use Rattle.spec.specs.Tidy.{merged}
use Rattle.laws.specs.Tools.{each_append, each_or}
use Rattle.laws.specs.Codec.Numbers.{drop-bytes, parts-bytes}
use Rattle.laws.specs.Codec.Back.{RecFits}
use Rattle.laws.specs.Codec.Exact.{page-fits}
use Rattle.laws.specs.Codec.Pages.{page_at_lem}
use Rattle.laws.specs.Codec.Sections.{length-records}
use Rattle.laws.specs.Turns.CallsRise.{put_length}
use Rattle.laws.specs.Tidy.Merged.{merged-length, merged_each, merged-nil, merged-append, merged_snoc}
use Rattle.laws.specs.Tidy.Entries.{page_on, gathered, page_from}
use Rattle.laws.specs.Tidy.Gathered.{gathered_step, gathered_end, own_from}
use Rattle.wire.specs.Over.{over}
use Rattle.wire.specs.OverLaws.{over_none, over_whole, over_again, length_over}
use Rattle.header.specs.declared.Header.{Header}
use Rattle.page.specs.View.{record_at, records_from, records-none, records_snoc, records-length}
use Rattle.page.specs.Room.{room, room-size}
use Rattle.page.specs.Image.{closed}
use Rattle.page.specs.ImageLaws.{owns, closed_image}
use Rattle.page.specs.KeepLaws.{records-fit, records_back}
use Rattle.tidy.specs.Given.{Given, Shows}
use Rattle.tidy.proofs.Known.{ok, count_shown, depth_is}

-- ---- the records of a page, put among the first n of another

-- i of them are in
abbrev pub partly : List ℕ → List ℕ → ℕ → ℕ → List Rec
partly s p n i = merged (records_from s 0 n) (records_from p 0 i)

partly_length : (s p : List ℕ) (n i : ℕ) → length (partly s p n i) ≡ n + i
partly_length s p n i =
    omega (arith, merged-length (records_from s 0 n) (records_from p 0 i), records-length s 0 n, records-length p 0 i)

pub partly_none : (s p : List ℕ) (n : ℕ) → ((k : ℕ) → byte s k < 256) → s ≡ over s 4 (each record_bytes (partly s p n 0))
partly_none s p n b = rw (records-none p 0, merged-nil (records_from s 0 n)) (sym (owns s 0 n b))

-- and one more
pub Partly-more
    : (s p t : List ℕ) (n i : ℕ)
    → ((k : ℕ) → byte s k < 256)
    → ((k : ℕ) → byte p k < 256)
    → page_size (n + i) ≤ length s
    → t ≡ over s 4 (each record_bytes (partly s p n i))
    → over t 4 (each record_bytes (put_in (records_from t 0 (n + i)) (record_at p i))) ≡ over s 4 (each record_bytes (partly s p n (i + 1)))
Partly-more s p t n i b b' l e =
    let x = partly s p n i in
    let r = record_at p i in
    let many = partly_length s p n i in
    let fits : Each RecFits x = merged_each (records_from s 0 n) (records_from p 0 i) (records-fit s 0 n b) (records-fit p 0 i b') in
    let back : records_from t 0 (n + i) ≡ x = rw e (records_back s x (n + i) many fits l) in
    let again = over_again (each record_bytes x) (each record_bytes (put_in x r)) s 4 (omega (arith, length-records x, length-records (put_in x r), put_length x r)) in
    let more : partly s p n (i + 1) ≡ put_in x r = rw (add-one, records_snoc p 0 i, zero-add) (merged_snoc (records_from s 0 n) (records_from p 0 i) r) in
    rw (back, more) (rw e again)

-- ---- the records of the pages from one entry on

-- what is read of bytes fits
page-records-fit : (b : List ℕ) (x : ℕ) → AreBytes b → Each RecFits (page_at (file_of b) x).records
unfolding page_at file_of page_parts
page-records-fit b zero h = end
page-records-fit b (suc x) h =
    let parts = parts-bytes _ _ _ (drop-bytes (table_offset (header_of b)) b h) in
    rw (page_at_lem b x) (page-fits _ (each_or (page_parts (header_of b) b) x [] end parts))

-- those before entry j are in: n records, written over s
pub record Gathers (f : File) (from to : ℕ) (s t : List ℕ) (n j : ℕ) : Type 0 where
  pub rs : List Rec
  pub all : gathered f from to ≡ rs ++ gathered f j to
  pub many : length rs ≡ n
  pub fits : Each RecFits rs
  pub bytes : t ≡ over s 4 (each record_bytes (merged [] rs))

pub gathers_none : (f : File) (from to : ℕ) (s : List ℕ) → Gathers f from to s s 0 from
unfolding each
gathers_none f from to s = record { rs = []; all = refl; many = refl; fits = end; bytes = rw (merged-nil []) (sym (over_none s 4)) }

module _ {f : File} {from to : ℕ} {s t : List ℕ} {n j : ℕ} (g : Gathers f from to s t n j) where
  pub gathers_length : length t ≡ length s
  gathers_length = ap length g.bytes ∙ length_over s 4 (each record_bytes (merged [] g.rs))

  -- the next page's are among those that are asked for
  gathers_few : j < to → n + length (page_on f j).records ≤ length (gathered f from to)
  gathers_few l =
      let q = (page_on f j).records in
      let rest = gathered f (j + 2 ^ (f.g - (page_on f j).depth)) to in
      omega (arith, ap length g.all, length-append g.rs (gathered f j to), ap length (gathered_step f j to l), length-append q rest, g.many)

  gathers_more
      : j < to
      → Each RecFits (page_on f j).records
      → page_size n ≤ length s
      → Gathers f from to s
      (over t 4 (each record_bytes (merged (records_from t 0 n) (page_on f j).records)))
      (n + length (page_on f j).records)
      (j + 2 ^ (f.g - (page_on f j).depth))
  gathers_more l fits room =
      let q = (page_on f j).records in
      let rest = gathered f (j + 2 ^ (f.g - (page_on f j).depth)) to in
      let x = merged [] g.rs in
      let y = merged x q in
      let many : length x ≡ n = omega (arith, merged-length [] g.rs, g.many) in
      let back : records_from t 0 n ≡ x = rw g.bytes (records_back s x n many (merged_each [] g.rs end g.fits) room) in
      let again = over_again (each record_bytes x) (each record_bytes y) s 4 (omega (arith, length-records x, length-records y, merged-length x q)) in
      record {
        rs = g.rs ++ q;
        all = g.all ∙ ap (λ l. g.rs ++ l) (gathered_step f j to l) ∙ sym (append_assoc g.rs q rest);
        many = omega (arith, length-append g.rs q, g.many);
        fits = each_append g.rs q g.fits fits;
        bytes = rw (back, merged-append [] g.rs q) (rw g.bytes again);
      }

  pub gathers_all : to ≤ j → (n ≡ length (gathered f from to)) × (t ≡ over s 4 (each record_bytes (merged [] (gathered f from to))))
  gathers_all l =
      let e : gathered f from to ≡ g.rs = g.all ∙ ap (λ l. g.rs ++ l) (gathered_end f j to l) ∙ append-nil g.rs in
      (sym (ap length e ∙ g.many), rw e g.bytes)

-- ---- the steps of the code

-- p are the bytes of the page that entry j names
module _ {h : Header} {b : List ℕ} (e : Given h b) {from to : ℕ} {s t : List ℕ} {n j : ℕ} (g : Gathers (file_of b) from to s t n j) (l : j < to)
    {p : List ℕ} (there : Shows h (page_on (file_of b) j) p) where
  same : length (page_on (file_of b) j).records ≡ byte p 1
  same = sym (count_shown p ∙ ap (λ (q : Page). length q.records) there.is)

  -- there is room for the page's records
  pub step_room : length s ≡ page_size h.capacity → length (gathered (file_of b) from to) ≤ h.capacity → page_size (n + byte p 1) ≤ length t
  step_room u v = omega (arith, gathers_length g, gathers_few g l, same)

  -- and the walk goes on
  pub step-more
      : (u : List ℕ) (m r : ℕ)
      → page_size n ≤ length s
      → u ≡ over t 4 (each record_bytes (merged (records_from t 0 n) (page_of p).records))
      → m ≡ n + length (page_of p).records
      → r ≡ 2 ^ (h.depth - (page_of p).depth)
      → Gathers (file_of b) from to s u m (j + r)
  unfolding page_on
  step-more u m r room written many run =
      rw (written, many, run, there.is, ← depth_is e) (gathers_more g l (page-records-fit b (entry_at (file_of b) j) (are_bytes b e.bytes)) room)

-- ---- the page of depth l whose first entry is j
module _ {h : Header} {b : List ℕ} (e : Given h b) (j l run : ℕ) (is : run ≡ 2 ^ (h.depth - l)) where
  -- its entries' records, and the page
  abbrev pub under : List Rec
  under = gathered (file_of b) j (j + run)

  from-under : page_from (file_of b) j l ≡ record { depth = l; pattern = j / run; records = merged [] under }
  unfolding page_from
  from-under = rw (is, depth_is e)

  pub under-few : length (page_from (file_of b) j l).records ≤ h.capacity → length under ≤ h.capacity
  under-few k = omega (arith, ap (λ (q : Page). length q.records) from-under, merged-length [] under)

  pub under_closed
      : (s t : List ℕ) (n : ℕ)
      → length s ≡ page_size h.capacity
      → length (page_from (file_of b) j l).records ≤ h.capacity
      → n ≡ length under
      → t ≡ over s 4 (each record_bytes (merged [] under))
      → closed t l n (j / run) ≡ page_bytes h.capacity (page_from (file_of b) j l)
  under_closed s t n size few many written =
      let r : room (length s) ≡ h.capacity = rw size (room-size h.capacity) in
      let image =
      closed_image s (merged [] under) l n (j / run) (rw r size) (omega (arith, many, merged-length [] under)) (omega (arith, r, under-few few, many)) in
      rw (written, from-under) (rw r at image)

-- the file's own page
module _ {h : Header} {b : List ℕ} (e : Given h b) (j l : ℕ) where
  -- entry j is an entry
  pub under_first : j + 2 ^ (h.depth - l) ≤ 2 ^ h.depth → j < 2 ^ h.depth
  under_first k = omega (arith, pow_pos (h.depth - l))

  -- the file's own, of bytes p, copied over s
  pub under_own
      : {p : List ℕ} (s : List ℕ)
      → j < 2 ^ h.depth
      → Shows h (page_on (file_of b) j) p
      → (page_of p).depth ≡ l
      → length s ≡ page_size h.capacity
      → over s 0 (take (length s) (drop 0 p)) ≡ page_bytes h.capacity (page_from (file_of b) j l)
  under_own {p} s k there deep size =
      let n : length s ≡ length p = size ∙ sym there.size in
      let own : page_from (file_of b) j l ≡ page_on (file_of b) j = rw (← deep, there.is) (own_from (file_of b) (ok e) j (rw (depth_is e) k)) in
      rw (take_all (length s) p (omega arith), own, there.written) (over_whole p s (sym n))
