-- The depths of the pages left, found along the entries: each step of the search of one depth, each step of the walk.
use Prim.Native.Nat.{ℕ, zero, suc, ◌+◌, ◌-◌, ◌*◌, ◌^◌, ◌<◌, ◌≤◌}
use Rattle.std.specs.Prelude.{◌≡◌, List, [], ◌∷◌, ◌++◌, map, length}
use Rattle.std.proofs.Math.Path.{refl, ap}
use Rattle.std.proofs.Common.{sym, ◌∙◌, append_assoc, append-nil, length-append, lt-ltb, le-ltb, le-leb}
use Rattle.std.proofs.Math.Logic.{by_cases}
use Rattle.std.proofs.lemmas.List.{map-append}
use native.Mathlib.Omega.{arith}
use Rattle.std.proofs.Math.Decide.{ℕ_discrete, dec_lt}
use Rattle.std.proofs.Math.Pow.{pow_pos}
use Rattle.std.proofs.lemmas.Bool.{lt-leb}
use Rattle.spec.specs.File.{Page, File}
use Rattle.spec.specs.Proper.{FileOk}
use Rattle.spec.specs.Tidy.{pages_left}
use Rattle.laws.specs.Tools.{if-true, if-false}
use Rattle.laws.specs.Tidy.Entries.{records_under, depth_from, depth_on, depths_from, depths_left}
use Rattle.laws.specs.Tidy.Tiles.{tiles_some}
use Rattle.laws.specs.Tidy.Twins.{joined-depth, joined_length}
use Rattle.laws.specs.Tidy.Left.{is_pair_lem, Left, own, pair, apart, pages_left_lem}
use Rattle.laws.specs.Tidy.Kept.{twins, left_tiles}
use Rattle.laws.specs.Tidy.EntriesOf.{low_entries, high_entries, entries_in, left_deep, left_small}
use Rattle.laws.specs.Tidy.Spans.{held, held_one, few_one, under}

module _ (f : File) where
  -- the search of the least depth
  stops : (n j l : ℕ) → records_under f l j ≤ f.c → depth_from (suc n) f j l ≡ l
  unfolding depth_from
  stops n j l h = if-true _ _ (le-leb _ _ h)

  onward : (n j l : ℕ) → f.c < records_under f l j → depth_from (suc n) f j l ≡ depth_from n f j (suc l)
  unfolding depth_from
  onward n j l h = if-false _ _ (lt-leb _ _ h)

  pub depth_here : (j l : ℕ) → l < f.g → records_under f l j ≤ f.c → depth_from (f.g - l) f j l ≡ l
  depth_here j l u h = let e : f.g - l ≡ suc (f.g - suc l) = omega arith in rw e (stops _ j l h)

  pub depth-next : (j l : ℕ) → l < f.g → f.c < records_under f l j → depth_from (f.g - l) f j l ≡ depth_from (f.g - suc l) f j (suc l)
  depth-next j l u h =
      let e : f.g - l ≡ suc (f.g - suc l) = omega arith in
      ap (λ n. depth_from n f j l) e ∙ onward (f.g - suc l) j l h

  pub depth_last : (j : ℕ) → depth_from (f.g - f.g) f j f.g ≡ f.g
  unfolding depth_from
  depth_last j = let e : f.g - f.g ≡ 0 = omega arith in rw e

  pub depth-start : (j : ℕ) → depth_on f j ≡ depth_from (f.g - 0) f j 0
  unfolding depth_on
  depth-start j = ap (λ n. depth_from n f j 0) (omega arith)

  -- the walk: enough fuel is as good as more
  from_end : (n j : ℕ) → 2 ^ f.g ≤ j → depths_from n f j ≡ []
  unfolding depths_from
  from_end zero j h = refl
  from_end (suc n) j h = if-false _ _ (le-ltb _ _ h)

  from_step : (n j : ℕ) → j < 2 ^ f.g → depths_from (suc n) f j ≡ depth_on f j ∷ depths_from n f (j + 2 ^ (f.g - depth_on f j))
  unfolding depths_from
  from_step n j h = if-true _ _ (lt-ltb _ _ h)

  from_fuel : (n m j : ℕ) → 2 ^ f.g ≤ n + j → 2 ^ f.g ≤ m + j → depths_from n f j ≡ depths_from m f j
  from_fuel zero m j a b = from_end zero j (omega arith) ∙ sym (from_end m j (omega arith))
  from_fuel (suc n) zero j a b = from_end (suc n) j (omega arith) ∙ sym (from_end zero j (omega arith))
  from_fuel (suc n) (suc m) j a b =
      by_cases (dec_lt j (2 ^ f.g))
      (λ h.
      let w = pow_pos (f.g - depth_on f j) in
      from_step n j h ∙ ap (λ ls. depth_on f j ∷ ls) (from_fuel n m (j + 2 ^ (f.g - depth_on f j)) (omega arith) (omega arith)) ∙ sym (from_step m j h))
      (λ h. from_end (suc n) j (omega arith) ∙ sym (from_end (suc m) j (omega arith)))

  pub depths_end : (j : ℕ) → 2 ^ f.g ≤ j → depths_left f j ≡ []
  unfolding depths_left
  depths_end j h = from_end (2 ^ f.g - j) j h

  pub depths_step : (j : ℕ) → j < 2 ^ f.g → depths_left f j ≡ depth_on f j ∷ depths_left f (j + 2 ^ (f.g - depth_on f j))
  unfolding depths_left
  depths_step j h =
      let w = pow_pos (f.g - depth_on f j) in
      let e : 2 ^ f.g - j ≡ suc (2 ^ f.g - suc j) = omega arith in
      ap (λ n. depths_from n f j) e
      ∙ from_step (2 ^ f.g - suc j) j h
      ∙ ap (λ ls. depth_on f j ∷ ls) (from_fuel (2 ^ f.g - suc j) (2 ^ f.g - (j + 2 ^ (f.g - depth_on f j))) (j + 2 ^ (f.g - depth_on f j)) (omega arith) (omega arith))

  -- a depth is come to if every one below it leaves too many records
  depth_come : (j l : ℕ) → l ≤ f.g → ((n : ℕ) → n < l → f.c < records_under f n j) → depth_on f j ≡ depth_from (f.g - l) f j l
  depth_come j zero h a = depth-start j
  depth_come j (suc l) h a = depth_come j l (omega arith) (λ n u. a n (omega arith)) ∙ depth-next j l h (a l (omega arith))

  pub depth_is : (j l : ℕ) → l ≤ f.g → ((n : ℕ) → n < l → f.c < records_under f n j) → records_under f l j ≤ f.c → depth_on f j ≡ l
  depth_is j l h a u =
      by_cases (ℕ_discrete l f.g)
      (λ (e : l ≡ f.g). depth_come j l h a ∙ rw e (depth_last j))
      (λ e. depth_come j l h a ∙ depth_here j l (omega arith) u)

-- THE DEPTHS OF THE PAGES LEFT
module _ (f : File) (ok : FileOk f) where
  abbrev g : ℕ
  g = f.g

  -- a pattern that the walk comes to: every shorter one that it begins with has more than c records
  abbrev Above : ℕ → ℕ → Type 0
  Above l p = (n j : ℕ) → n < l → p * 2 ^ (g - l) ≤ j → j < (p + 1) * 2 ^ (g - l) → f.c < records_under f n j

  abbrev depths : List Page → List ℕ
  depths ps = map (λ (q : Page). q.depth) ps

  -- one page is left
  one_page_lem
      : {l p : ℕ} {q : Page}
      → Left f l p (q ∷ [])
      → Above l p
      → q.depth ≡ l
      → length q.records ≤ f.c
      → depths_left f (p * 2 ^ (g - l)) ≡ q.depth ∷ depths_left f ((p + 1) * 2 ^ (g - l))
  one_page_lem {l} {p} {q} s a d few =
      let j = p * 2 ^ (g - l) in
      let w = pow_pos (g - l) in
      let i = entries_in g l p (left_deep f ok s) (left_small f ok s) in
      let u = under f ok s j (omega arith) (omega arith) in
      let k = held_one (q ∷ []) refl in
      let e : depth_on f j ≡ l = depth_is f j l (left_deep f ok s) (λ n h. a n j h (omega arith) (omega arith)) (omega arith) in
      let z : p * 2 ^ (g - l) + 2 ^ (g - l) ≡ (p + 1) * 2 ^ (g - l) = omega arith in
      depths_step f j (omega arith) ∙ rw (e, d, z)

  -- several: then the pattern has more than c records, and the walk comes to its halves
  many : (l p : ℕ) (xs ys : List Page) → Left f (suc l) (2 * p) xs → Left f (suc l) (2 * p + 1) ys → Left f l p (xs ++ ys) → f.c < held (xs ++ ys)
  many l p xs ys s t r =
      by_cases (dec_lt f.c (held (xs ++ ys))) (λ h. h)
      (λ h.
      let a = tiles_some (left_tiles s) in
      let b = tiles_some (left_tiles t) in
      let n = few_one r (omega arith) in
      absurd (omega (arith, length-append xs ys)))

  half_above
      : {l p : ℕ} {ps : List Page} (q : ℕ)
      → Left f l p ps
      → f.c < held ps
      → Above l p
      → p * 2 ^ (g - l) ≤ q * 2 ^ (g - suc l)
      → (q + 1) * 2 ^ (g - suc l) ≤ (p + 1) * 2 ^ (g - l)
      → Above (suc l) q
  half_above {l} q r m a lo hi n j h b t =
      by_cases (ℕ_discrete n l) (λ (e : n ≡ l). rw (e, under f ok r j (omega arith) (omega arith)) m)
      (λ e. a n j (omega arith) (omega arith) (omega arith))

  along : {l p : ℕ} {ps : List Page} → Left f l p ps → Above l p → depths_left f (p * 2 ^ (g - l)) ≡ depths ps ++ depths_left f ((p + 1) * 2 ^ (g - l))
  along (own {x = x} n d e) a = one_page_lem (own n d e) a d (ok.pages x n).room
  along {l} {p} (pair {xs = xs} {ys = ys} h s t e) a =
      let o = is_pair_lem f.c xs ys e in
      let w = twins h (left_tiles s) (left_tiles t) o.one_left o.one_right in
      one_page_lem (pair h s t e) a (joined-depth l p _ _ w) (rw (joined_length l p _ _ w) o.few)
  along {l} {p} (apart {xs = xs} {ys = ys} h s t e) a =
      let r = apart h s t e in
      let m = many l p xs ys s t r in
      let b : l < g = left_deep f ok s in
      let lo = low_entries g l p b in
      let hi = high_entries g l p b in
      let x = rw lo at (along s (half_above (2 * p) r m a (omega arith) (omega arith))) in
      let y = rw hi at (along t (half_above (2 * p + 1) r m a (omega arith) (omega arith))) in
      let end = depths_left f ((p + 1) * 2 ^ (g - l)) in
      x
      ∙ ap (λ ls. depths xs ++ ls) y
      ∙ sym (append_assoc (depths xs) (depths ys) end)
      ∙ ap (λ ls. ls ++ end) (sym (map-append (λ (q : Page). q.depth) xs ys))

  pub depths_left_lem : depths_left f 0 ≡ map (λ (q : Page). q.depth) (pages_left f)
  depths_left_lem =
      let z : g - 0 ≡ g = omega arith in
      let s : 0 * 2 ^ g ≡ 0 = omega arith in
      let e : (0 + 1) * 2 ^ g ≡ 2 ^ g = omega arith in
      let u = along (pages_left_lem f ok) (λ n j h. absurd (omega arith)) in
      rw (z, s, e, depths_end f (2 ^ g) (omega arith), append-nil) at u
