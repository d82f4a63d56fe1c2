-- Where pages begin in a directory, by their depths alone: each behind the one before it. Pages that part all calls begin at their first
-- entries, and a directory written page by page is theirs.
use Rattle.std.specs.Prelude.{ℕ, zero, suc, ◌+◌, ◌-◌, ◌*◌, ◌/◌, ◌%◌, ◌^◌, ◌<◌, ◌≤◌, ◌≡◌, refl, List, [], ◌∷◌, ◌++◌, map, length, get_or, take, replicate}
use Rattle.std.proofs.Common.{sym, ap, ◌∙◌, append_assoc, append-nil, arith, get_or-append-add, take-suc, length-take-le, ext_get_or, pow_pos}
use Rattle.std.proofs.Math.Logic.{by_cases}
use Rattle.std.proofs.Math.Decide.{dec_lt}
use Rattle.std.proofs.Math.Nat.{mod-lt}
use Rattle.std.proofs.Math.ListN.{length-append, length-map, get_or-append, get_or-map}
use Rattle.std.proofs.lemmas.List.{length-replicate, get_or-replicate}
use Rattle.std.proofs.Math.Seq.{take-length}
use Rattle.std.proofs.Math.Pow.{split}
use Rattle.spec.specs.Basics.{Each}
use Rattle.spec.specs.Key.{index}
use Rattle.spec.specs.File.{Page, zero_page}
use Rattle.spec.specs.Job.{max_depth}
use Rattle.spec.specs.Split.{new_owner}
use Rattle.spec.specs.Tidy.{first_entry, owners_from}
use Rattle.laws.specs.Tools.{each_at}
use Rattle.laws.specs.Key.{index-lt, index_onto}
use Rattle.laws.specs.Turns.Prefix.{index_prefix}
use Rattle.laws.specs.Turns.Owners.{new_owner_is}
use Rattle.laws.specs.Tidy.Tiles.{each_left, each_right, Tiles, whole, halves, tiles_lone, Covered, tiles_cover}
use Rattle.laws.specs.Tidy.Laid.{length_owners, owners_at}
use Rattle.laws.specs.Tidy.Entries.{start_of, spread}
use Rattle.laws.specs.Tidy.EntriesOf.{twice, tiles_under}

-- ---- where a page begins: the steps

pub start-zero : (d : ℕ) (ls : List ℕ) → start_of d ls 0 ≡ 0
unfolding start_of
start-zero d ls = refl

pub start-next : (d : ℕ) (ls : List ℕ) (k : ℕ) → k < length ls → start_of d ls (suc k) ≡ start_of d ls k + 2 ^ (d - get_or ls k 0)
unfolding start_of
start-next d [] k h = absurd (omega arith)
start-next d (l ∷ ls) zero h = omega arith
start-next d (l ∷ ls) (suc k) h = let i = start-next d ls k (omega arith) in omega arith

-- none begins behind the end
pub start-le : (d : ℕ) (ls : List ℕ) (k : ℕ) → start_of d ls k ≤ start_of d ls (length ls)
unfolding start_of
start-le d [] zero = omega arith
start-le d [] (suc k) = omega arith
start-le d (l ∷ ls) zero = omega arith
start-le d (l ∷ ls) (suc k) = let h = start-le d ls k in omega arith

-- ---- the directory, written page by page

pub spread_take-length : (d : ℕ) (ls : List ℕ) (k x : ℕ) → length (spread d (take k ls) x) ≡ start_of d ls k
unfolding start_of spread
spread_take-length d ls zero x = refl
spread_take-length d [] (suc k) x = refl
spread_take-length d (l ∷ ls) (suc k) x =
    rw (length-append, length-replicate) (ap (λ n. 2 ^ (d - l) + n) (spread_take-length d ls k (suc x)))

pub spread-length : (d : ℕ) (ls : List ℕ) (x : ℕ) → start_of d ls (length ls) ≡ length (spread d ls x)
spread-length d ls x = sym (rw take-length at (spread_take-length d ls (length ls) x))

spread_append : (d : ℕ) (xs ys : List ℕ) (x : ℕ) → spread d (xs ++ ys) x ≡ spread d xs x ++ spread d ys (x + length xs)
unfolding spread
spread_append d [] ys x = ap (spread d ys) (omega arith)
spread_append d (l ∷ xs) ys x =
    let e : suc x + length xs ≡ x + suc (length xs) = omega arith in
    ap (λ rs. replicate (2 ^ (d - l)) x ++ rs) (spread_append d xs ys (suc x) ∙ ap (λ n. spread d xs (suc x) ++ spread d ys n) e)
    ∙ sym (append_assoc (replicate (2 ^ (d - l)) x) (spread d xs (suc x)) (spread d ys (x + suc (length xs))))

pub spread_take
    : (d : ℕ) (ls : List ℕ) (k : ℕ)
    → k < length ls
    → spread d (take (suc k) ls) 1 ≡ spread d (take k ls) 1 ++ replicate (2 ^ (d - get_or ls k 0)) (suc k)
unfolding spread
spread_take d ls k h =
    let e : 1 + length (take k ls) ≡ suc k = omega (arith, length-take-le k ls (omega arith)) in
    ap (λ rs. spread d rs 1) (take-suc ls k 0 h)
    ∙ spread_append d (take k ls) (get_or ls k 0 ∷ []) 1
    ∙ rw e (ap (λ rs. spread d (take k ls) 1 ++ rs) (append-nil _))

-- the entries from a page's beginning on, as many as name it, have its number
spread_at
    : (d : ℕ) (ls : List ℕ) (x m i : ℕ)
    → m < length ls
    → i < 2 ^ (d - get_or ls m 0)
    → get_or (spread d ls x) (start_of d ls m + i) 0 ≡ x + m
unfolding start_of spread
spread_at d [] x m i h l = absurd (omega arith)
spread_at d (a ∷ ls) x zero i h l =
    let n = 2 ^ (d - a) in
    let z : 0 + i ≡ i = omega arith in
    rw z (get_or-append (replicate n x) (spread d ls (suc x)) 0 i (rw length-replicate l) ∙ get_or-replicate n i x 0 l ∙ (omega arith))
spread_at d (a ∷ ls) x (suc m) i h l =
    let n = 2 ^ (d - a) in
    let z : n + start_of d ls m + i ≡ length (replicate n x) + (start_of d ls m + i) = rw length-replicate (omega arith) in
    ap (λ j. get_or (replicate n x ++ spread d ls (suc x)) j 0) z
    ∙ get_or-append-add (replicate n x) (spread d ls (suc x)) (start_of d ls m + i) 0
    ∙ spread_at d ls (suc x) m i (omega arith) l
    ∙ (omega arith)

-- ---- pages that part a pattern

abbrev depths : List Page → List ℕ
depths ps = map (λ (q : Page). q.depth) ps

depth_at : (ps : List Page) (m : ℕ) → get_or (depths ps) m 0 ≡ (get_or ps m zero_page).depth
depth_at ps m = get_or-map (λ (q : Page). q.depth) ps m zero_page

-- of pages that stand behind others
start_left : (d : ℕ) (xs ys : List Page) (k : ℕ) → k ≤ length xs → start_of d (depths (xs ++ ys)) k ≡ start_of d (depths xs) k
unfolding start_of
start_left d xs ys zero h = refl
start_left d [] ys (suc k) h = absurd (omega arith)
start_left d (x ∷ xs) ys (suc k) h = ap (λ n. 2 ^ (d - x.depth) + n) (start_left d xs ys k (omega arith))

start_right
    : (d : ℕ) (xs ys : List Page) (k : ℕ)
    → start_of d (depths (xs ++ ys)) (length xs + k) ≡ start_of d (depths xs) (length xs) + start_of d (depths ys) k
unfolding start_of
start_right d [] ys k = let z : 0 + k ≡ k = omega arith in rw z (omega arith)
start_right d (x ∷ xs) ys k =
    let z : suc (length xs) + k ≡ suc (length xs + k) = omega arith in
    let h = start_right d xs ys k in
    rw z (omega arith)

module _ (d : ℕ) where
  abbrev Shallow : List Page → Type 0
  Shallow ps = Each (λ q. q.depth ≤ d) ps

  total : {l p : ℕ} {ps : List Page} → Tiles l p ps → Shallow ps → start_of d (depths ps) (length ps) ≡ 2 ^ (d - l)
  unfolding start_of
  total (whole {q = q} e i) h = rw e (omega arith)
  total {l} (halves {xs = xs} {ys = ys} b s t) h =
      let u = total s (each_left xs ys h) in
      let v = total t (each_right xs ys h) in
      let w = twice d l (tiles_under d s (each_left xs ys h)) in
      rw length-append (start_right d xs ys (length ys) ∙ (omega arith))

  -- a page of the pattern begins at its first entry
  abbrev Begins : ℕ → ℕ → List Page → ℕ → Type 0
  Begins l p ps m = p * 2 ^ (d - l) + start_of d (depths ps) m ≡ first_entry d (get_or ps m zero_page)

  begins-whole : (l p : ℕ) (q : Page) → q.depth ≡ l → q.pattern ≡ p → Begins l p (q ∷ []) 0
  unfolding first_entry start_of
  begins-whole l p q e i = rw (e, i) (omega arith)

  begins_left : (l p : ℕ) (xs ys : List Page) (m : ℕ) → l < d → m < length xs → Begins (suc l) (2 * p) xs m → Begins l p (xs ++ ys) m
  begins_left l p xs ys m h k e =
      rw (twice d l h, start_left d xs ys m (omega arith), get_or-append xs ys zero_page m k) (omega arith)

  begins_right
      : (l p : ℕ) (xs ys : List Page) (m : ℕ)
      → l < d
      → start_of d (depths xs) (length xs) ≡ 2 ^ (d - suc l)
      → Begins (suc l) (2 * p + 1) ys m
      → Begins l p (xs ++ ys) (length xs + m)
  begins_right l p xs ys m h t e =
      rw (twice d l h, start_right d xs ys m, t, get_or-append-add xs ys m zero_page) (omega arith)

  begins_at : {l p : ℕ} {ps : List Page} → Tiles l p ps → Shallow ps → (m : ℕ) → m < length ps → Begins l p ps m
  begins_at {l} {p} (whole {q = q} e i) h zero k = begins-whole l p q e i
  begins_at (whole e i) h (suc m) k = absurd (omega arith)
  begins_at {l} {p} (halves {xs = xs} {ys = ys} b s t) h m k =
      let hx = each_left xs ys h in
      let hy = each_right xs ys h in
      let low = tiles_under d s hx in
      by_cases (dec_lt m (length xs)) (λ u. begins_left l p xs ys m low u (begins_at s hx m u))
      (λ u.
      let z : length xs + (m - length xs) ≡ m = omega arith in
      let n = length-append xs ys in
      rw z at (begins_right l p xs ys (m - length xs) low (total s hx) (begins_at t hy (m - length xs) (omega arith))))

-- PAGES THAT PART ALL CALLS BEGIN AT THEIR FIRST ENTRIES, and have the whole directory
module _ (d : ℕ) (ps : List Page) (tiles : Tiles 0 0 ps) (shallow : Each (λ q. q.depth ≤ d) ps) where
  pub tiles_start : (m : ℕ) → m < length ps → start_of d (map (λ (q : Page). q.depth) ps) m ≡ first_entry d (get_or ps m zero_page)
  tiles_start m l = omega (arith, begins_at d tiles shallow m l)

  pub tiles_total : start_of d (map (λ (q : Page). q.depth) ps) (length ps) ≡ 2 ^ d
  tiles_total = let z : d - 0 ≡ d = omega arith in rw z at (total d tiles shallow)

  -- an entry that the pattern of page m begins has its number
  spread_entry
      : (m j : ℕ)
      → m < length ps
      → j / 2 ^ (d - (get_or ps m zero_page).depth) ≡ (get_or ps m zero_page).pattern
      → get_or (spread d (depths ps) 1) j 0 ≡ 1 + m
  unfolding first_entry
  spread_entry m j l e =
      let n = d - (get_or ps m zero_page).depth in
      let r : j % 2 ^ n < 2 ^ n = mod-lt j (pow_pos n) in
      let at : start_of d (depths ps) m + j % 2 ^ n ≡ j = rw (tiles_start m l, ← e) (split j n) in
      rw at at (spread_at d (depths ps) 1 m (j % 2 ^ n) (rw length-map l) (rw (depth_at ps m) r))

  call_same : d ≤ 32 → (k : ℕ) → Covered k ps → get_or (spread d (depths ps) 1) (index d k) 0 ≡ new_owner d ps 1 (index d k)
  call_same w k (m, l, i) =
      spread_entry m (index d k) l (index_prefix (get_or ps m zero_page).depth d k (each_at ps m zero_page l shallow) w ∙ i)
      ∙ sym (new_owner_is d ps 1 k m zero_page w shallow (tiles_lone tiles k) l i)

  entry_same : d ≤ max_depth → (j : ℕ) → j < 2 ^ d → get_or (spread d (depths ps) 1) j 0 ≡ new_owner d ps 1 j
  entry_same w j l =
      let (k, e) = index_onto d j w l in
      let z = index-lt 0 k (omega arith) in
      rw e at (call_same (omega arith) k (tiles_cover tiles k (omega arith)))

  spread_size : length (spread d (depths ps) 1) ≡ 2 ^ d
  spread_size = sym (rw length-map at (spread-length d (depths ps) 1)) ∙ tiles_total

-- THE DIRECTORY IS THEIRS
pub spread_owners
    : (d : ℕ) (ps : List Page)
    → d ≤ max_depth
    → Tiles 0 0 ps
    → Each (λ q. q.depth ≤ d) ps
    → spread d (map (λ (q : Page). q.depth) ps) 1 ≡ owners_from (2 ^ d) d ps 0
spread_owners d ps w t h =
    let n = spread_size d ps t h in
    ext_get_or 0 (spread d (depths ps) 1) (owners_from (2 ^ d) d ps 0) (n ∙ sym (length_owners (2 ^ d) d ps 0))
    (λ j l.
    let l' : j < 2 ^ d = omega arith in
    let z : 0 + j ≡ j = omega arith in
    entry_same d ps t h w j l' ∙ sym (rw z at (owners_at (2 ^ d) d ps 0 j l')))
