-- The records of a page left, gathered along the directory: those of the file's pages under its pattern, by their first entries, put in order.
use Rattle.std.specs.Prelude.{ℕ, zero, suc, ◌+◌, ◌-◌, ◌*◌, ◌^◌, ◌<◌, ◌≤◌, ◌≡◌, refl, length, get_or}
use Rattle.std.proofs.Math.Path.{sym, ap}
use Rattle.std.proofs.Common.{◌∙◌, arith, lt-ltb, le-ltb, eqb-true}
use Rattle.std.proofs.Math.Logic.{inl, inr, ⊎_elim}
use mathlib.Core.List.{List, [], ◌∷◌, ◌++◌, append_assoc, append-nil}
use Rattle.std.proofs.Math.ListN.{length-append}
use Rattle.std.proofs.Math.Pow.{pow_pos}
use Rattle.std.proofs.lemmas.Nat.{shl-shr}
use Rattle.spec.specs.declared.Rec.{Rec}
use Rattle.spec.specs.Basics.{Each, end, next}
use Rattle.spec.specs.Key.{begins}
use Rattle.spec.specs.File.{Page, File, zero_page, page_at, entry_at, find_in}
use Rattle.spec.specs.PlainList.{NoneTwice}
use Rattle.spec.specs.Proper.{PageNo, FileOk}
use Rattle.spec.specs.Tidy.{first_entry, merged, join_pages, pages_left}
use Rattle.laws.specs.Tools.{if-true, if-false, if_both, each_append, each_at}
use Rattle.laws.specs.Turns.Records.{join_twice}
use Rattle.laws.specs.Turns.CallsRise.{rise-once}
use Rattle.laws.specs.Tidy.Merged.{Apart, merged-append, sorted_find, sorted_same, merged-sorted}
use Rattle.laws.specs.Tidy.Tiles.{tiles_some, tiles_one}
use Rattle.laws.specs.Tidy.Twins.{Twins, apart as twins_apart}
use Rattle.laws.specs.Tidy.Left.{is_pair_lem, Left, own, pair, apart, pages_left_lem}
use Rattle.laws.specs.Tidy.Kept.{twins, left_tiles, left_each, Right, page_right, joined_right}
use Rattle.laws.specs.Tidy.Entries.{page_on, records_from, gathered, page_from}
use Rattle.laws.specs.Tidy.EntriesOf.{twice, left_deep, entry_from, own_page}

-- ---- the steps of the walk

-- each step goes on by an entry at least, so fuel for every entry that is left is enough
fuel : (n m : ℕ) (f : File) (j e : ℕ) → e ≤ j + n → e ≤ j + m → records_from n f j e ≡ records_from m f j e
unfolding records_from
fuel zero zero f j e a b = refl
fuel zero (suc m) f j e a b = sym (if-false _ _ (le-ltb j e (omega arith)))
fuel (suc n) zero f j e a b = if-false _ _ (le-ltb j e (omega arith))
fuel (suc n) (suc m) f j e a b =
    let s = 2 ^ (f.g - (page_on f j).depth) in
    let pos = pow_pos (f.g - (page_on f j).depth) in
    if_both (λ u v. u ≡ v) (λ t. ap (λ rs. (page_on f j).records ++ rs) (fuel n m f (j + s) e (omega arith) (omega arith))) (λ t. refl)

pub gathered_end : (f : File) (j e : ℕ) → e ≤ j → gathered f j e ≡ []
unfolding gathered records_from
gathered_end f j e l = let z : e - j ≡ 0 = omega arith in rw z

pub gathered_step : (f : File) (j e : ℕ) → j < e → gathered f j e ≡ (page_on f j).records ++ gathered f (j + 2 ^ (f.g - (page_on f j).depth)) e
unfolding gathered records_from
gathered_step f j e l =
    let s = 2 ^ (f.g - (page_on f j).depth) in
    let pos = pow_pos (f.g - (page_on f j).depth) in
    let z : e - j ≡ suc (e - j - 1) = omega arith in
    ap (λ n. records_from n f j e) z
    ∙ if-true _ _ (lt-ltb j e l)
    ∙ ap (λ rs. (page_on f j).records ++ rs) (fuel (e - j - 1) (e - (j + s)) f (j + s) e (omega arith) (omega arith))

-- ---- the pages in use under a pattern, in the directory

-- the records of those pages, one page behind the other
unfoldable raw : {f : File} {l p : ℕ} {ps : List Page} → Left f l p ps → List Rec
raw {f} (own {x = x} n d e) = (page_at f x).records
raw (pair h s t e) = raw s ++ raw t
raw (apart h s t e) = raw s ++ raw t

-- where a pattern's entries end, and where they begin and end in those of its halves
past : (p n : ℕ) → (p + 1) * n ≡ p * n + n
past p n = omega arith

half-ends : (p n : ℕ) → (p * (n * 2) ≡ 2 * p * n) × ((p + 1) * (n * 2) ≡ (2 * p + 1 + 1) * n)
half-ends p n = (omega arith, omega arith)

-- a page left, its first entry, and the entry behind its last
abbrev pub left_page : File → ℕ → Page
left_page f m = get_or (pages_left f) m zero_page

abbrev pub left_from : File → ℕ → ℕ
left_from f m = first_entry f.g (left_page f m)

abbrev pub left_to : File → ℕ → ℕ
left_to f m = left_from f m + 2 ^ (f.g - (left_page f m).depth)

-- a page is its parts
from_parts : (q : Page) (p : ℕ) (rs : List Rec) → p ≡ q.pattern → rs ≡ q.records → record { depth = q.depth; pattern = p; records = rs } ≡ q
from_parts q p rs e h = rw (e, h)

module _ (f : File) (ok : FileOk f) where
  abbrev g : ℕ
  g = f.g

  -- the walk through a pattern's entries gathers these records
  abbrev Walked : ℕ → ℕ → List Rec → Type 0
  Walked l p rs = (e : ℕ) → (p + 1) * 2 ^ (g - l) ≤ e → gathered f (p * 2 ^ (g - l)) e ≡ rs ++ gathered f ((p + 1) * 2 ^ (g - l)) e

  walked_own
      : (x l p : ℕ) → PageNo f x → (page_at f x).depth ≡ l → (page_at f x).pattern ≡ p → Walked l p (page_at f x).records
  unfolding first_entry
  walked_own x l p n d i e h =
      let at : p * 2 ^ (g - l) ≡ entry_from f x = rw (d, i) in
      let w : page_on f (p * 2 ^ (g - l)) ≡ page_at f x = ap (page_on f) at ∙ own_page f ok x n in
      let pos = pow_pos (g - l) in
      let z = past p (2 ^ (g - l)) in
      rw (w, d, ← z) at (gathered_step f (p * 2 ^ (g - l)) e (omega arith))

  walked_halves
      : (l p : ℕ) (xs ys : List Rec)
      → l < g
      → Walked (suc l) (2 * p) xs
      → Walked (suc l) (2 * p + 1) ys
      → Walked l p (xs ++ ys)
  walked_halves l p xs ys h a b e u =
      let w = twice g l h in
      let (from, to) = half-ends p (2 ^ (g - suc l)) in
      let u' : (2 * p + 1 + 1) * 2 ^ (g - suc l) ≤ e = rw (w, to) at u in
      rw (w, from, to, append_assoc) (a e (omega arith) ∙ ap (λ rs. xs ++ rs) (b e (omega arith)))

  walked : {l p : ℕ} {ps : List Page} (s : Left f l p ps) → Walked l p (raw s)
  unfolding raw
  walked {l} {p} (own {x = x} n d e) = walked_own x l p n d e
  walked {l} {p} (pair h s t e) = walked_halves l p (raw s) (raw t) (left_deep f ok s) (walked s) (walked t)
  walked {l} {p} (apart h s t e) = walked_halves l p (raw s) (raw t) (left_deep f ok s) (walked s) (walked t)

  -- ---- what they come to, under a pattern that came to one page

  rights : {l p : ℕ} {ps : List Page} → Left f l p ps → Each (Right f) ps
  rights s = left_each (Right f) (page_right f ok) (joined_right f) s

  -- no call is twice among the records, and put in order they are the page's
  abbrev Gives : List Rec → Page → Type 0
  Gives rs q = NoneTwice rs × (merged [] rs ≡ q.records)

  -- so the same is found in both
  gives_find : (rs : List Rec) (q : Page) → Gives rs q → (k : ℕ) → find_in rs k ≡ find_in q.records k
  gives_find rs q (t, e) k = sym (sorted_find rs k t) ∙ ap (λ l. find_in l k) e

  gives_own : (x : ℕ) → PageNo f x → Gives (page_at f x).records (page_at f x)
  gives_own x n = let h = (ok.pages x n).calls_rise in (rise-once _ h, sorted_same _ h)

  gives_pair
      : (l p : ℕ) (a b : Page) (xs ys : List Rec)
      → Twins l p a b
      → Right f a
      → Right f b
      → Gives xs a
      → Gives ys b
      → Gives (xs ++ ys) (join_pages a b)
  unfolding join_pages
  gives_pair l p a b xs ys w x y u v =
      let d : Apart a.records b.records = twins_apart l p a b w x.ok.homed y.ok.homed in
      let d' : Apart a.records (merged [] ys) = rw v.1 d in (
        join_twice xs ys u.0 v.0 (λ k. ⊎_elim (λ q. inl (gives_find xs a u k ∙ q)) (λ q. inr (gives_find ys b v k ∙ q)) (d k)),
        merged-append [] xs ys
            ∙ ap (λ rs. merged rs ys) u.1
            ∙ sym (merged-sorted a.records ys x.ok.calls_rise v.0 d')
            ∙ ap (merged a.records) v.1,
      )

  gives : {l p : ℕ} {ps : List Page} (s : Left f l p ps) → length ps ≡ 1 → Gives (raw s) (get_or ps 0 zero_page)
  unfolding raw
  gives (own {x = x} n d e) o = gives_own x n
  gives {l} {p} (pair {xs = xs} {ys = ys} h s t e) o =
      let i = is_pair_lem f.c xs ys e in
      gives_pair l p _ _ (raw s) (raw t) (twins h (left_tiles s) (left_tiles t) i.one_left i.one_right)
      (each_at xs 0 zero_page (omega (arith, i.one_left)) (rights s))
      (each_at ys 0 zero_page (omega (arith, i.one_right)) (rights t))
      (gives s i.one_left)
      (gives t i.one_right)
  gives (apart {xs = xs} {ys = ys} h s t e) o =
      let a = tiles_some (left_tiles s) in
      let b = tiles_some (left_tiles t) in
      absurd (omega (arith, o, length-append xs ys))

  -- each page left came about so, by itself
  renamed : {l p l' p' : ℕ} {ps : List Page} → l' ≡ l → p' ≡ p → Left f l p ps → Left f l' p' ps
  renamed d e s = rw (d, e) s

  by_itself : {l p : ℕ} {ps : List Page} → Left f l p ps → Each (λ q. Left f q.depth q.pattern (q ∷ [])) ps
  by_itself (own {x = x} n d e) = next (renamed d e (own n d e)) end
  by_itself (pair h s t e) =
      let w = tiles_one (left_tiles (pair h s t e)) refl in
      next (renamed w.0 w.1 (pair h s t e)) end
  by_itself (apart {xs = xs} {ys = ys} h s t e) = each_append xs ys (by_itself s) (by_itself t)

  sole_records
      : (q : Page)
      → Left f q.depth q.pattern (q ∷ [])
      → merged [] (gathered f (first_entry g q) (first_entry g q + 2 ^ (g - q.depth))) ≡ q.records
  unfolding first_entry
  sole_records q s =
      let at = q.pattern * 2 ^ (g - q.depth) in
      let to = at + 2 ^ (g - q.depth) in
      let e = past q.pattern (2 ^ (g - q.depth)) in
      let w : gathered f at to ≡ raw s = walked s to (omega arith) ∙ ap (λ rs. raw s ++ rs) (gathered_end f _ to (omega arith)) ∙ append-nil (raw s) in
      ap (merged []) w ∙ (gives s refl).1

  -- THE RECORDS OF A PAGE LEFT
  pub left_gathered : (m : ℕ) → m < length (pages_left f) → merged [] (gathered f (left_from f m) (left_to f m)) ≡ (left_page f m).records
  left_gathered m l = sole_records _ (each_at (pages_left f) m zero_page l (by_itself (pages_left_lem f ok)))

  -- a page of the file, made of its depth and of an entry that names it
  pub own_from : (j : ℕ) → j < 2 ^ g → page_from f j (page_on f j).depth ≡ page_on f j
  unfolding page_from page_on begins entry_at
  own_from j l =
      let q = page_on f j in
      let n = 2 ^ (g - q.depth) in
      let pos = pow_pos (g - q.depth) in
      let w : gathered f j (j + n) ≡ q.records
      = gathered_step f j (j + n) (omega arith) ∙ ap (λ rs. q.records ++ rs) (gathered_end f (j + n) (j + n) (omega arith)) ∙ append-nil q.records in
      from_parts q _ _ (eqb-true _ _ (ok.names j l)) (ap (merged []) w ∙ sorted_same _ (ok.pages (entry_at f j) (ok.fit.entries j l)).calls_rise)

  -- THE PAGE LEFT, made of its depth and its first entry
  pub left_page_lem : (m : ℕ) → m < length (pages_left f) → page_from f (left_from f m) (left_page f m).depth ≡ left_page f m
  unfolding page_from first_entry
  left_page_lem m l = from_parts (left_page f m) _ _ (shl-shr (left_page f m).pattern (g - (left_page f m).depth)) (left_gathered m l)
