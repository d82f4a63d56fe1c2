-- Of the pages left of a proper file: they part all calls; each is proper, and a call is found in its page as in the file; and they are no more than there were.
use Rattle.std.specs.Prelude.{ℕ, zero, suc, ◌+◌, ◌-◌, ◌*◌, ◌/◌, ◌^◌, ◌<◌, ◌≤◌, ◌≡◌, List, Bool, true, ◌&&◌, length, get_or, eqb, leb}
use Rattle.std.proofs.Common.{sym, ap, ◌∙◌, arith, length-append, shr-shr, eq-eqb, le-leb}
use Rattle.std.proofs.Math.Logic.{by_cases}
use Rattle.std.proofs.Math.Bool.{and-eq-true_iff}
use Rattle.std.proofs.Math.Decide.{ℕ_discrete}
use Rattle.spec.specs.Basics.{if, Each, end, next}
use Rattle.spec.specs.File.{Page, File, zero_page, page_at, find_in}
use Rattle.spec.specs.Proper.{In, PageNo, PageOk, FileOk}
use Rattle.spec.specs.Tidy.{join_pages, pages_left}
use Rattle.laws.specs.Tools.{if_case, if-true, first, each_append, each_at}
use Rattle.laws.specs.Codec.Tools.{eqb_yes}
use Rattle.laws.specs.Turns.Lookup.{lookup, lookup_at}
use Rattle.laws.specs.Tidy.Tiles.{each_left, each_right, Tiles, whole, halves, tiles_one}
use Rattle.laws.specs.Tidy.Twins.{Twins, joined-depth, joined-pattern, joined_ok, joined_find}
use Rattle.laws.specs.Tidy.Left.{leb_yes, is_pair_lem, Left, own, pair, apart, entry_of, pages_left_lem}

-- two halves that came to one page each
pub twins
    : {l p : ℕ} {xs ys : List Page}
    → l < 32
    → Tiles (suc l) (2 * p) xs
    → Tiles (suc l) (2 * p + 1) ys
    → length xs ≡ 1
    → length ys ≡ 1
    → Twins l p (get_or xs 0 zero_page) (get_or ys 0 zero_page)
twins h s t a b =
    let x = tiles_one s a in
    let y = tiles_one t b in
    record { low = h; depth-a = x.0; depth-b = y.0; pattern-a = x.1; pattern-b = y.1 }

pub left_tiles : {f : File} {l p : ℕ} {ps : List Page} → Left f l p ps → Tiles l p ps
left_tiles (own n d e) = whole d e
left_tiles {f} {l} {p} (pair {xs = xs} {ys = ys} h s t e) =
    let o = is_pair_lem f.c xs ys e in
    let w = twins h (left_tiles s) (left_tiles t) o.one_left o.one_right in
    whole (joined-depth l p _ _ w) (joined-pattern l p _ _ w)
left_tiles (apart h s t e) = halves h (left_tiles s) (left_tiles t)

-- what the file's pages have, and joining keeps, the pages left have
module _ {f : File} (P : Page → Type 0) (pages : (x : ℕ) → PageNo f x → P (page_at f x))
    (keeps : (l p : ℕ) (a b : Page) → Twins l p a b → length a.records + length b.records ≤ f.c → P a → P b → P (join_pages a b)) where
  pub left_each : {l p : ℕ} {ps : List Page} → Left f l p ps → Each P ps
  left_each (own {x = x} n d e) = next (pages x n) end
  left_each {l} {p} (pair {xs = xs} {ys = ys} h s t e) =
      let o = is_pair_lem f.c xs ys e in
      let w = twins h (left_tiles s) (left_tiles t) o.one_left o.one_right in
      next
      (keeps l p _ _ w o.few (each_at xs 0 zero_page (omega (arith, o.one_left)) (left_each s))
      (each_at ys 0 zero_page (omega (arith, o.one_right)) (left_each t))) end
  left_each (apart {xs = xs} {ys = ys} h s t e) = each_append xs ys (left_each s) (left_each t)

-- a proper page in which a call is found as in file f
pub record Right (f : File) (q : Page) : Type 0 where
  pub ok : PageOk f.g f.c q
  pub finds : (k : ℕ) → In q k → find_in q.records k ≡ lookup f k

pub page_right : (f : File) → FileOk f → (x : ℕ) → PageNo f x → Right f (page_at f x)
page_right f ok x n = record { ok = ok.pages x n; finds = λ k i. sym (lookup_at f k x (entry_of f ok x k n i)) }

pub joined_right
    : (f : File) (l p : ℕ) (a b : Page)
    → Twins l p a b
    → length a.records + length b.records ≤ f.c
    → Right f a
    → Right f b
    → Right f (join_pages a b)
joined_right f l p a b w few x y =
    record {
      ok = joined_ok l p a b w f.g f.c x.ok y.ok few;
      finds = λ k i. joined_find l p a b w x.ok.homed y.ok.homed (λ o. o ≡ lookup f k) k y.ok.calls_rise i (x.finds k) (y.finds k);
    }

pub left_right : (f : File) → FileOk f → Each (Right f) (pages_left f)
left_right f ok = left_each (Right f) (page_right f ok) (joined_right f) (pages_left_lem f ok)

-- how many of the numbers 1 to n pass a test
unfoldable count : (ℕ → Bool) → ℕ → ℕ
count t zero = 0
count t (suc n) = if (t (suc n)) 1 0 + count t n

if_one : (b : Bool) → b ≡ true → ◌≡◌ {A = ℕ} (if b 1 0) 1
if_one b e = if-true 1 0 e

count-le : (t : ℕ → Bool) (n : ℕ) → count t n ≤ n
unfolding count
count-le t zero = omega arith
count-le t (suc n) = let h = count-le t n in if_case (λ m. m + count t n ≤ suc n) (λ e. omega arith) (λ e. omega arith)

count_one : (t : ℕ → Bool) (n x : ℕ) → 0 < x → x ≤ n → t x ≡ true → 1 ≤ count t n
unfolding count
count_one t zero x a b e = absurd (omega arith)
count_one t (suc n) x a b e =
    by_cases (ℕ_discrete x (suc n)) (λ (z : x ≡ suc n). let w = if_one (t (suc n)) (rw z at e) in omega arith)
    (λ z. let h = count_one t n x a (omega arith) e in omega arith)

-- two tests that no number passes both, and a third that those of either pass
count_two
    : (s t u : ℕ → Bool) (n : ℕ)
    → ((x : ℕ) → 0 < x → x ≤ n → s x ≡ true → t x ≡ true → ⊥)
    → ((x : ℕ) → 0 < x → x ≤ n → s x ≡ true → u x ≡ true)
    → ((x : ℕ) → 0 < x → x ≤ n → t x ≡ true → u x ≡ true)
    → count s n + count t n ≤ count u n
unfolding count
count_two s t u zero a b c = omega arith
count_two s t u (suc n) a b c =
    let h = count_two s t u n (λ x i j. a x i (omega arith)) (λ x i j. b x i (omega arith)) (λ x i j. c x i (omega arith)) in
    if_case (λ m. m + count s n + (if (t (suc n)) 1 0 + count t n) ≤ if (u (suc n)) 1 0 + count u n)
    (λ e.
    if_case (λ m. 1 + count s n + (m + count t n) ≤ if (u (suc n)) 1 0 + count u n) (λ e'. absurd (a (suc n) (omega arith) (omega arith) e e'))
    (λ e'. let w = if_one (u (suc n)) (b (suc n) (omega arith) (omega arith) e) in omega arith))
    (λ e.
    if_case (λ m. 0 + count s n + (m + count t n) ≤ if (u (suc n)) 1 0 + count u n)
    (λ e'. let w = if_one (u (suc n)) (c (suc n) (omega arith) (omega arith) e') in omega arith)
    (λ e'. omega arith))

-- the pages in use under a pattern
unfoldable is_under : File → ℕ → ℕ → ℕ → Bool
is_under f l p x = leb l (page_at f x).depth && eqb ((page_at f x).pattern / 2 ^ ((page_at f x).depth - l)) p

own_under : (f : File) (x : ℕ) → is_under f (page_at f x).depth (page_at f x).pattern x ≡ true
unfolding is_under
own_under f x =
    let l = (page_at f x).depth in
    let z : l - l ≡ 0 = omega arith in
    rw (le-leb l l (omega arith), z) (eq-eqb ((page_at f x).pattern / 2 ^ 0) (page_at f x).pattern (omega arith))

record Below (f : File) (l p x : ℕ) : Type 0 where
  deep : l ≤ (page_at f x).depth
  front : (page_at f x).pattern / 2 ^ ((page_at f x).depth - l) ≡ p

below : (f : File) (l p x : ℕ) → is_under f l p x ≡ true → Below f l p x
unfolding is_under
below f l p x e = let t = simp (and-eq-true_iff, eqb_yes, leb_yes) at e in record { deep = t.0; front = t.1 }

half-under : (f : File) (l p q x : ℕ) → q / 2 ≡ p → is_under f (suc l) q x ≡ true → is_under f l p x ≡ true
unfolding is_under
half-under f l p q x h e =
    let b = below f (suc l) q x e in
    let d = (page_at f x).depth in
    let z : d - l ≡ (d - suc l) + 1 = omega (arith, b.deep) in
    let w : (page_at f x).pattern / 2 ^ (d - l) ≡ p = rw z (sym (shr-shr (page_at f x).pattern (d - suc l) 1) ∙ ap (λ n. n / 2) b.front ∙ h) in
    rw (le-leb l d (omega (arith, b.deep))) (eq-eqb _ _ w)

halves_count
    : (f : File) (l p : ℕ)
    → count (is_under f (suc l) (2 * p)) f.used + count (is_under f (suc l) (2 * p + 1)) f.used ≤ count (is_under f l p) f.used
halves_count f l p =
    count_two _ _ _ f.used
    (λ x i j a b. let u = (below f (suc l) (2 * p) x a).front in let v = (below f (suc l) (2 * p + 1) x b).front in omega arith)
    (λ x i j a. half-under f l p (2 * p) x (omega arith) a)
    (λ x i j a. half-under f l p (2 * p + 1) x (omega arith) a)

left_count : {f : File} {l p : ℕ} {ps : List Page} → Left f l p ps → length ps ≤ count (is_under f l p) f.used
left_count {f} (own {x = x} n d e) = count_one _ f.used x n.0 n.1 (rw (← d, ← e) (own_under f x))
left_count {f} {l} {p} (pair {xs = xs} {ys = ys} h s t e) =
    let o = is_pair_lem f.c xs ys e in
    let a = left_count s in
    let b = left_count t in
    omega (arith, halves_count f l p, o.one_left)
left_count {f} {l} {p} (apart {xs = xs} {ys = ys} h s t e) =
    let a = left_count s in
    let b = left_count t in
    rw (length-append xs ys) (omega (arith, halves_count f l p))

-- no more pages than before
pub left_few : (f : File) → FileOk f → length (pages_left f) ≤ f.used
left_few f ok = let a = left_count (pages_left_lem f ok) in let b = count-le (is_under f 0 0) f.used in omega arith

-- nor are pages of the file that part all calls
tiles_count
    : (f : File) {l p : ℕ} {qs : List Page}
    → Tiles l p qs
    → Each (λ q. (x : ℕ) × (PageNo f x × (page_at f x ≡ q))) qs
    → length qs ≤ count (is_under f l p) f.used
tiles_count f (whole {q = q} d e) u =
    let (x, (n, z)) = first u in
    let d' = ap (λ (r : Page). r.depth) z ∙ d in
    let e' = ap (λ (r : Page). r.pattern) z ∙ e in
    count_one _ f.used x n.0 n.1 (rw (← d', ← e') (own_under f x))
tiles_count f {l} {p} (halves {xs = xs} {ys = ys} h s t) u =
    let a = tiles_count f s (each_left xs ys u) in
    let b = tiles_count f t (each_right xs ys u) in
    rw (length-append xs ys) (omega (arith, halves_count f l p))

pub tiles_few : (f : File) {qs : List Page} → Tiles 0 0 qs → Each (λ q. (x : ℕ) × (PageNo f x × (page_at f x ≡ q))) qs → length qs ≤ f.used
tiles_few f t u = let a = tiles_count f t u in let b = count-le (is_under f 0 0) f.used in omega arith
