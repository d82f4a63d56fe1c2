-- The directory and the page table, written front to back: one pass of each loop, and the end.
use mathlib.Core.Path.{◌≡◌, sym, ap, ◌∙◌}
use mathlib.Core.List.{List, ◌++◌, map}
use Prim.Native.Nat.{ℕ, zero, suc, ◌+◌, ◌-◌, ◌*◌, ◌^◌, ◌≤◌, ◌<◌}
use native.Mathlib.Nat.{mul-le-mul_left}
use native.Mathlib.Numerals.{add-one}
use native.Mathlib.Omega.{arith}
use lib.ListN.{length, get_or, take, drop, replicate, length-append, length-map, length-replicate, replicate-append-replicate, get_or-map}
use lib.Seq.{take_all, take-suc, length-take-le}
use Rattle.spec.specs.Basics.{each, Each, end, next}
use Rattle.spec.specs.Bytes.{two}
use Rattle.spec.specs.Job.{page_size}
use Rattle.spec.specs.File.{Page, zero_page}
use Rattle.spec.specs.Encode.{page_bytes}
use Rattle.spec.specs.Decode.{file_of}
use Rattle.spec.specs.Tidy.{pages_left, owners_from}
use Rattle.laws.specs.Tools.{each_imp}
use Rattle.laws.specs.Codec.Tools.{every, each_map}
use Rattle.laws.specs.Codec.Parts.{each_join, each_snoc, length_each}
use Rattle.laws.specs.Codec.Sections.{length_two, length-page}
use Rattle.laws.specs.Tidy.Tiles.{Tiles}
use Rattle.laws.specs.Tidy.Left.{pages_left_lem}
use Rattle.laws.specs.Tidy.Kept.{left_tiles, left_right, left_few}
use Rattle.laws.specs.Tidy.Depths.{depths_left_lem}
use Rattle.laws.specs.Tidy.Gathered.{left_page_lem}
use Rattle.laws.specs.Tidy.Entries.{start_of, spread, depths_left, page_from}
use Rattle.laws.specs.Tidy.Starts.{start-next, start-le, spread_take, spread_take-length, spread-length, tiles_start, tiles_total, spread_owners}
use Rattle.wire.specs.Over.{over}
use Rattle.wire.specs.OverLaws.{over_none, over-over, over_whole}
use Rattle.wire.specs.Parts.{length_part, over_part}
use Rattle.header.specs.declared.Header.{Header}
use Rattle.tidy.specs.Given.{Given, Fills}
use Rattle.tidy.proofs.Known.{ok, depth_is, capacity_is, pages_is}

-- ---- numbers of 2 bytes

pub length_twos : (xs : List ℕ) → length (each two xs) ≡ 2 * length xs
length_twos xs = length_each two 2 xs (every length_two xs)

-- ---- `put_entries`: i times the number x are written from entry j on

pub entries_none : (d : List ℕ) (at x : ℕ) → d ≡ over d at (each two (replicate 0 x))
unfolding each
entries_none d at x = sym (over_none d at)

pub entries_next
    : {t u : List ℕ} (d : List ℕ) (j i x : ℕ)
    → t ≡ over d (2 * j) (each two (replicate i x))
    → u ≡ over t (2 * (j + i)) (two x)
    → u ≡ over d (2 * j) (each two (replicate (i + 1) x))
entries_next d j i x e f =
    let at : 2 * (j + i) ≡ 2 * j + length (each two (replicate i x)) = rw (length_twos, length-replicate) (omega arith) in
    let more : each two (replicate i x) ++ two x ≡ each two (replicate (i + 1) x) =
    sym (each_snoc two (replicate i x) x) ∙ ap (each two) (replicate-append-replicate i 1 x)
    in
    f ∙ rw e (over-over (each two (replicate i x)) (two x) d (2 * j) (2 * (j + i)) at ∙ ap (over d (2 * j)) more)

-- ---- `put_directory`: the entries of the first k pages are written

module _ (g : ℕ) (ls : List ℕ) where
  pub runs_none : (d : List ℕ) → d ≡ over d 0 (each two (spread g (take 0 ls) 1))
  unfolding each spread
  runs_none d = sym (over_none d 0)

  -- the entries of one page more are entries of the directory
  pub run_inside : (k j : ℕ) → k < length ls → j ≡ start_of g ls k → start_of g ls (length ls) ≡ 2 ^ g → j + 2 ^ (g - get_or ls k 0) ≤ 2 ^ g
  run_inside k j l e w = omega (arith, start-next g ls k l, start-le g ls (suc k))

  pub start-more : (k j : ℕ) → k < length ls → j ≡ start_of g ls k → j + 2 ^ (g - get_or ls k 0) ≡ start_of g ls (k + 1)
  start-more k j l e = rw (add-one k) (omega (arith, start-next g ls k l))

  pub runs_next
      : {t u : List ℕ} (d : List ℕ) (k j n : ℕ)
      → k < length ls
      → j ≡ start_of g ls k
      → n ≡ 2 ^ (g - get_or ls k 0)
      → t ≡ over d 0 (each two (spread g (take k ls) 1))
      → u ≡ over t (2 * j) (each two (replicate n (k + 1)))
      → u ≡ over d 0 (each two (spread g (take (k + 1) ls) 1))
  runs_next d k j n l e m h f =
      let x = spread g (take k ls) 1 in
      let at : 2 * j ≡ 0 + length (each two x) = rw (length_twos, spread_take-length g ls k 1, e) (omega arith) in
      let more : each two x ++ each two (replicate n (k + 1)) ≡ each two (spread g (take (k + 1) ls) 1) =
      rw (add-one k, m, spread_take g ls k l) (sym (each_join two x (replicate (2 ^ (g - get_or ls k 0)) (suc k))))
      in
      f ∙ rw h (over-over (each two x) (each two (replicate n (k + 1))) d 0 (2 * j) at ∙ ap (over d 0) more)

  pub runs_all
      : {t : List ℕ} (d : List ℕ) (k : ℕ)
      → length ls ≤ k
      → length d ≡ 2 * 2 ^ g
      → start_of g ls (length ls) ≡ 2 ^ g
      → t ≡ over d 0 (each two (spread g (take k ls) 1))
      → t ≡ each two (spread g ls 1)
  runs_all d k l n w e =
      let x = spread g ls 1 in
      let size : length (each two x) ≡ length d = rw (length_twos, ← (spread-length g ls 1), w) (sym n) in
      e ∙ rw (take_all k ls l) (over_whole (each two x) d size)

-- ---- `put_pages`: places in the table

times_rest : (s k n : ℕ) → k ≤ n → s * n ≡ s * k + s * (n - k)
times_rest s k n h = let z : n ≡ k + (n - k) = omega arith in ap (λ m. s * m) z ∙ (omega arith)

place_end : (s k n : ℕ) → k ≤ n → s * k ≤ s * n
place_end s k n h = mul-le-mul_left s h

place-next : (s k n : ℕ) → k < n → s * k + s ≤ s * n
place-next s k n h = let z : s * k + s ≡ s * (k + 1) = omega arith in rw z (place_end s (k + 1) n (omega arith))

-- ---- what is known of the pages left

module _ {h : Header} {b : List ℕ} (o : Given h b) (left : List ℕ) (known : left ≡ depths_left (file_of b) 0) where
  abbrev ps : List Page
  ps = pages_left (file_of b)

  depths : left ≡ map (λ (q : Page). q.depth) ps
  depths = known ∙ depths_left_lem (file_of b) (ok o)

  pub as_many : length left ≡ length ps
  as_many = ap length depths ∙ length-map ps (λ (q : Page). q.depth)

  depth_at : (k : ℕ) → get_or left k 0 ≡ (get_or ps k zero_page).depth
  depth_at k = rw depths (get_or-map (λ (q : Page). q.depth) ps k zero_page)

  enough : length ps ≤ h.pages
  enough = omega (arith, left_few (file_of b) (ok o), (ok o).fit.within, pages_is o)

  shallow : Each (λ q. q.depth ≤ h.depth) ps
  shallow = each_imp (λ q r. omega (arith, r.ok.deep, depth_is o)) (left_right (file_of b) (ok o))

  pub small : Each (λ q. length q.records ≤ h.capacity) ps
  small = each_imp (λ q r. omega (arith, r.ok.room, capacity_is o)) (left_right (file_of b) (ok o))

  -- they have the whole of a directory that is deep enough
  tiles : Tiles 0 0 ps
  tiles = left_tiles (pages_left_lem (file_of b) (ok o))

  pub fills : (d : ℕ) → Each (λ q. q.depth ≤ d) ps → Fills d left
  fills d w =
      record {
        deep = rw depths ((each_map (λ (q : Page). q.depth) ps).1 w);
        total = rw depths (rw length-map (tiles_total d ps tiles w));
      }

  pub own_fills : Fills h.depth left
  own_fills = fills h.depth shallow

  -- and it is the tidied file's
  pub owners : (d : ℕ) → d ≤ 8 → Each (λ q. q.depth ≤ d) ps → spread d left 1 ≡ owners_from (2 ^ d) d ps 0
  owners d l w = rw depths (spread_owners d ps l tiles w)

  -- where page k stands, pages having s bytes each
  pub record Sizes (s k : ℕ) (table : List ℕ) : Type 0 where
    pub many : length left ≡ length ps
    pub fewer : k ≤ h.pages
    pub whole : length table ≡ s * h.pages
    pub stop : s * k ≤ s * h.pages
    pub next : k < length left → s * k + s ≤ s * h.pages

  pub sizes
      : (s k : ℕ) (table : List ℕ)
      → s ≡ page_size h.capacity
      → length table ≡ page_size h.capacity * h.pages
      → k ≤ length left
      → Sizes s k table
  sizes s k table e w u =
      let few : k ≤ h.pages = omega (arith, as_many, enough) in
      record {
        many = as_many;
        fewer = few;
        whole = rw e w;
        stop = place_end s k h.pages few;
        next = λ v. place-next s k h.pages (omega (arith, as_many, enough));
      }

  -- page k is the one that the code makes of its depth and of the entry that it has come to
  pub page_here : (k j : ℕ) → k < length left → j ≡ start_of h.depth left k → page_from (file_of b) j (get_or left k 0) ≡ get_or ps k zero_page
  page_here k j l e =
      let l' : k < length ps = omega (arith, as_many) in
      let at = tiles_start h.depth ps tiles shallow k l' in
      rw (depth_at k, e, depths, at, ← depth_is o) (left_page_lem (file_of b) (ok o) k l')

-- ---- the first k pages are written

-- a part that is lent, from a up to e: how long it is, and that it comes back
pub part_size : (w : List ℕ) (a e m : ℕ) → a + m ≡ e → e ≤ length w → length (take (e - a) (drop a w)) ≡ m
part_size w a e m q l =
    let z : e - a ≡ m = omega arith in
    rw z (length_part w a m (omega arith))

pub part_back
    : (w t : List ℕ) (a e : ℕ)
    → length t ≡ length (take (e - a) (drop a w))
    → a ≤ e
    → e ≤ length w
    → take a w ++ (t ++ drop (e - a) (drop a w)) ≡ over w a t
part_back w t a e q l u = over_part w t a (e - a) (q ∙ length_part w a (e - a) (omega arith)) (omega arith)

each_take : {A : Type 0} {P : A → Type 0} (k : ℕ) {xs : List A} → Each P xs → Each P (take k xs)
each_take zero e = end
each_take (suc k) end = end
each_take (suc k) (next p e) = next p (each_take k e)

module _ (c : ℕ) (ps : List Page) (small : Each (λ q. length q.records ≤ c) ps) where
  pages-size : (k : ℕ) → k ≤ length ps → length (each (page_bytes c) (take k ps)) ≡ page_size c * k
  pages-size k l =
      length_each (page_bytes c) (page_size c) (take k ps) (each_imp (λ q h. length-page c q h) (each_take k small))
      ∙ ap (λ n. page_size c * n) (length-take-le k ps l)

  pub pages-none : (d : List ℕ) → d ≡ over d 0 (each (page_bytes c) (take 0 ps))
  unfolding each
  pages-none d = sym (over_none d 0)

  pub pages-next
      : {t u : List ℕ} (d : List ℕ) (k : ℕ)
      → k < length ps
      → t ≡ over d 0 (each (page_bytes c) (take k ps))
      → u ≡ over t (page_size c * k) (page_bytes c (get_or ps k zero_page))
      → u ≡ over d 0 (each (page_bytes c) (take (k + 1) ps))
  pages-next d k l e f =
      let x = each (page_bytes c) (take k ps) in
      let y = page_bytes c (get_or ps k zero_page) in
      let at : page_size c * k ≡ 0 + length x = omega (arith, pages-size k (omega arith)) in
      let more : x ++ y ≡ each (page_bytes c) (take (k + 1) ps) =
      rw (add-one k, take-suc ps k zero_page l) (sym (each_snoc (page_bytes c) (take k ps) (get_or ps k zero_page)))
      in
      f ∙ rw e (over-over x y d 0 (page_size c * k) at ∙ ap (over d 0) more)

  -- and zeros behind them
  pub pages_all
      : {t u : List ℕ} (d : List ℕ) (k n at m : ℕ)
      → k ≡ length ps
      → k ≤ n
      → length d ≡ page_size c * n
      → t ≡ over d 0 (each (page_bytes c) (take k ps))
      → at ≡ page_size c * k
      → m ≡ page_size c * n - at
      → u ≡ over t at (replicate m 0)
      → u ≡ each (page_bytes c) ps ++ replicate (page_size c * (n - length ps)) 0
  pages_all d k n at m i l w e p q f =
      let x = each (page_bytes c) ps in
      let y : List ℕ = replicate m 0 in
      let long : length x ≡ page_size c * k = rw (take_all k ps (omega arith)) at (pages-size k (omega arith)) in
      let rest = times_rest (page_size c) k n l in
      let here : at ≡ 0 + length x = omega arith in
      let size : length (x ++ y) ≡ length d = rw (length-append, length-replicate) (omega arith) in
      let zeros : m ≡ page_size c * (n - length ps) = rw (← i) (omega arith) in
      let all : over d 0 (each (page_bytes c) (take k ps)) ≡ over d 0 x = rw (take_all k ps (omega arith)) in
      f ∙ rw (e, all) (over-over x y d 0 at here ∙ over_whole (x ++ y) d size ∙ rw zeros)
