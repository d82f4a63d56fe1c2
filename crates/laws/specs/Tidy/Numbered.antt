-- NUMBERED BY THEIR FIRST ENTRY: the pages left stand so, and there is one way to stand so. So what is written hangs on the joins alone.
use Rattle.std.specs.Prelude.{ℕ, suc, ◌+◌, ◌-◌, ◌*◌, ◌^◌, ◌<◌, ◌≤◌, ◌≡◌, refl, List, [], ◌∷◌, ◌++◌}
use Rattle.std.proofs.Common.{ap, subst}
use native.Mathlib.Omega.{arith}
use Rattle.std.proofs.Math.Pow.{pow_pos}
use Rattle.spec.specs.Basics.{Each, end, next, Has, here, there}
use Rattle.spec.specs.File.{Page, File, page_at, entry_at, pages_in_use}
use Rattle.spec.specs.Proper.{PageNo, FileOk}
use Rattle.spec.specs.Tidy.{NoPair, Same, Joins, pages_left, first_entry, ByFirstEntry, nobody, before, tidy_file}
use Rattle.laws.specs.Tools.{first, rest, each_append, each_imp}
use Rattle.laws.specs.Tidy.Tiles.{each_left, each_right, each_has, Tiles, whole, halves}
use Rattle.laws.specs.Tidy.Wanted.{Wanted}
use Rattle.laws.specs.Tidy.Left.{pages_left_lem}
use Rattle.laws.specs.Tidy.File.{tidy_ok, tidy_numbered, tidy_keeps}
use Rattle.laws.specs.Tidy.Kept.{left_tiles, left_right}
use Rattle.laws.specs.Tidy.Order.{any_order_lem}
use Rattle.laws.specs.Tidy.EntriesOf.{low_entries, high_entries, tiles_under, entry_from, first_within, first_names, not-before}

-- ---- pages that part a pattern stand so

-- the first entries of pages that part a pattern are among its own
abbrev Among : ℕ → ℕ → ℕ → Page → Type 0
Among d l p q = (p * 2 ^ (d - l) ≤ first_entry d q) × (first_entry d q < (p + 1) * 2 ^ (d - l))

joined-order
    : (d m : ℕ) (xs ys : List Page)
    → ByFirstEntry d xs
    → ByFirstEntry d ys
    → Each (λ q. first_entry d q < m) xs
    → Each (λ q. m ≤ first_entry d q) ys
    → ByFirstEntry d (xs ++ ys)
joined-order d m [] ys h k low high = k
joined-order d m (x ∷ xs) ys (before a h) k low high =
    let l = first low in
    before (each_append xs ys a (each_imp (λ q u. omega arith) high)) (joined-order d m xs ys h k (rest low) high)

module _ (d : ℕ) where
  among : {l p : ℕ} {ps : List Page} → Tiles l p ps → Each (λ q. q.depth ≤ d) ps → Each (Among d l p) ps
  unfolding first_entry
  among {l} {p} (whole {q = q} a b) deep =
      let z = pow_pos (d - l) in
      next {x = q} (rw (a, b) (omega arith, omega arith)) end
  among {l} {p} (halves {xs = xs} {ys = ys} h s t) deep =
      let u : l < d = tiles_under d s (each_left xs ys deep) in
      let low = low_entries d l p u in
      let high = high_entries d l p u in
      each_append xs ys (each_imp (λ q i. (omega (arith, i.0), omega (arith, i.1))) (among s (each_left xs ys deep)))
      (each_imp (λ q i. (omega (arith, i.0), omega (arith, i.1))) (among t (each_right xs ys deep)))

  tiles_order : {l p : ℕ} {ps : List Page} → Tiles l p ps → Each (λ q. q.depth ≤ d) ps → ByFirstEntry d ps
  tiles_order (whole a b) deep = before end nobody
  tiles_order {l} {p} (halves {xs = xs} {ys = ys} h s t) deep =
      joined-order d ((2 * p + 1) * 2 ^ (d - suc l)) xs ys (tiles_order s (each_left xs ys deep)) (tiles_order t (each_right xs ys deep))
      (each_imp (λ q i. i.1) (among s (each_left xs ys deep)))
      (each_imp (λ q i. i.0) (among t (each_right xs ys deep)))

-- ---- there is one way to stand so

-- the first is the one whose first entry is the least
not_behind : (d : ℕ) (p : Page) (ps : List Page) → Each (λ q. first_entry d p < first_entry d q) ps → Has p ps → ⊥
not_behind d p ps a h = let l = each_has h a in omega arith

leads : (d : ℕ) (p q : Page) (ps qs : List Page) → ByFirstEntry d (p ∷ ps) → ByFirstEntry d (q ∷ qs) → Has p (q ∷ qs) → Has q (p ∷ ps) → p ≡ q
leads d p q ps qs (before a h) (before b k) here v = refl
leads d p q ps qs (before a h) (before b k) (there u) here = refl
leads d p q ps qs (before a h) (before b k) (there u) (there v) =
    let l = each_has v a in
    let m = each_has u b in
    absurd (omega arith)

behind : (d : ℕ) (p : Page) (ps qs : List Page) → Each (λ q. first_entry d p < first_entry d q) ps → (x : Page) → Has x ps → (Has x (p ∷ ps) → Has x (p ∷ qs)) → Has x qs
behind d p ps qs a x h w = by (w (there h)) refl
  where
    by : {y : Page} → Has y (p ∷ qs) → y ≡ x → Has x qs
    by here e = absurd (not_behind d p ps a (rw e h))
    by (there u) e = rw (← e) u

nowhere : {x : Page} → Has x [] → ⊥
nowhere h = each_has {P = λ x. ⊥} h end

pub one_order : (d : ℕ) (ps qs : List Page) → ByFirstEntry d ps → ByFirstEntry d qs → Same ps qs → ps ≡ qs
one_order d [] [] h k e = refl
one_order d [] (q ∷ qs) h k e = absurd (nowhere ((e q).1 here))
one_order d (p ∷ ps) [] h k e = absurd (nowhere ((e p).0 here))
one_order d (p ∷ ps) (q ∷ qs) (before a h) (before b k) e =
    let same : p ≡ q = leads d p q ps qs (before a h) (before b k) ((e p).0 here) ((e q).1 here) in
    let tails = one_order d ps qs h k (λ x. (λ u. behind d p ps qs a x u (λ w. rw same ((e x).0 w)), λ u. behind d q qs ps b x u (λ w. rw (← same) ((e x).1 w)))) in
    rw (same, tails)

module _ (f : File) (ok : FileOk f) where
  -- THE PAGES LEFT STAND BY THEIR FIRST ENTRY, and no other list of pages that joins leave does
  pub left_order : ByFirstEntry f.g (pages_left f)
  left_order = tiles_order f.g (left_tiles (pages_left_lem f ok)) (each_imp (λ q r. r.ok.deep) (left_right f ok))

  pub only_left : (ps : List Page) → Joins f.c (pages_in_use f) ps → NoPair f.c ps → ByFirstEntry f.g ps → ps ≡ pages_left f
  only_left ps js n h = one_order f.g ps (pages_left f) h left_order (any_order_lem f ok ps js n)

-- in the tidied file each page's first entry names it, and the entries before name pages with lower numbers
module _ (f : File) (ok : FileOk f) (d : ℕ) (w : Wanted d f) where
  abbrev t : File
  t = tidy_file d f

  firsts : (x : ℕ) → PageNo t x → (entry_at t (entry_from t x) ≡ x) × ((j : ℕ) → j < entry_from t x → entry_at t j < x)
  firsts x n =
      let fine = tidy_ok f ok d w in
      let named = first_names t fine x n in
      let g : t.g ≡ d = (tidy_keeps f ok d w).0 in
      let within = first_within t fine x n in (
        named,
        λ j l.
            let low = tidy_numbered f ok d w j (entry_from t x) (omega arith) (omega (arith, within, ap (λ n. 2 ^ n) g)) in
            let not : entry_at t j ≡ x → ⊥ = λ e. let z = not-before t fine x j (omega arith) e in omega arith in
            omega arith,
      )

  pub tidy_entries
      : (x : ℕ)
      → PageNo t x
      → (entry_at t (first_entry d (page_at t x)) ≡ x) × ((j : ℕ) → j < first_entry d (page_at t x) → entry_at t j < x)
  tidy_entries x n =
      subst (λ (g : ℕ). (entry_at t (first_entry g (page_at t x)) ≡ x) × ((j : ℕ) → j < first_entry g (page_at t x) → entry_at t j < x)) (tidy_keeps f ok d w).0
      (firsts x n)
