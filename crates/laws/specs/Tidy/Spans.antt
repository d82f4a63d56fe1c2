-- How many records lie under a pattern, counted along the entries: the laws of the count, one entry at a time and under a pattern of which pages are left.
use Rattle.std.specs.Prelude.{ℕ, zero, suc, ◌+◌, ◌-◌, ◌*◌, ◌^◌, ◌<◌, ◌≤◌, ◌≡◌, List, [], ◌∷◌, ◌++◌, length, get_or}
use Rattle.std.proofs.Math.Path.{refl}
use Rattle.std.proofs.Common.{sym, ap, ◌∙◌, pow_mono, pow_pos, eq-eqb, ne_eqb}
use Rattle.std.proofs.Math.Logic.{by_cases}
use Rattle.std.proofs.lemmas.Bool.{false≢true}
use native.Mathlib.Omega.{arith}
use Rattle.std.proofs.Math.Decide.{ℕ_discrete}
use Rattle.spec.specs.File.{Page, File, zero_page, page_at, entry_at}
use Rattle.spec.specs.Proper.{PageNo, FileOk}
use Rattle.spec.specs.Tidy.{first_entry, join_pages}
use Rattle.laws.specs.Tools.{if_case, if-true, if-false}
use Rattle.laws.specs.Tidy.Entries.{page_on, records_at, records_before, records_under}
use Rattle.laws.specs.Tidy.EntriesOf.{low_entries, high_entries, front, left_deep, range_page}
use Rattle.laws.specs.Tidy.Twins.{joined_length}
use Rattle.laws.specs.Tidy.Left.{is_pair_lem, pair_is, Left, own, pair, apart}
use Rattle.laws.specs.Tidy.Kept.{twins, left_tiles}

module _ (f : File) where
  -- one entry
  pub at_first : (j : ℕ) → first_entry f.g (page_on f j) ≡ j → records_at f j ≡ length (page_on f j).records
  unfolding records_at
  at_first j e = if-true _ _ (eq-eqb _ _ e)

  pub at_later : (j : ℕ) → (first_entry f.g (page_on f j) ≡ j → ⊥) → records_at f j ≡ 0
  unfolding records_at
  at_later j e = if-false _ _ (ne_eqb _ _ e)

  -- the entries before j
  pub before-zero : records_before f 0 ≡ 0
  unfolding records_before
  before-zero = refl

  pub before-step : (j : ℕ) → records_before f (suc j) ≡ records_before f j + records_at f j
  unfolding records_before
  before-step j = refl

  pub before_mono : (i j : ℕ) → i ≤ j → records_before f i ≤ records_before f j
  before_mono i zero h = let e : i ≡ 0 = omega arith in rw e (omega arith)
  before_mono i (suc j) h =
      by_cases (ℕ_discrete i (suc j)) (λ (e : i ≡ suc j). rw e (omega arith))
      (λ e. let u = before_mono i j (omega arith) in omega (arith, before-step j))

  -- of a proper file
  module _ (ok : FileOk f) where
    at_most : (j : ℕ) → j < 2 ^ f.g → records_at f j ≤ 8
    unfolding records_at page_on entry_at
    at_most j l =
        let u = (ok.pages (entry_at f j) (ok.fit.entries j l)).room in
        if_case (λ n. n ≤ 8) (λ e. omega (arith, ok.fit.capacity)) (λ e. omega arith)

    before_eight : (j : ℕ) → j ≤ 2 ^ f.g → records_before f j ≤ 8 * j
    before_eight zero l = omega (arith, before-zero)
    before_eight (suc j) l =
        let u = before_eight j (omega arith) in
        omega (arith, before-step j, at_most j l)

    pub before-most : (j : ℕ) → j ≤ 2 ^ f.g → records_before f j ≤ 2048
    before-most j l =
        let u = before_eight j l in
        let v : 2 ^ f.g ≤ 2 ^ 8 = pow_mono ok.fit.depth in
        omega arith

-- how many records some pages hold
unfoldable pub held : List Page → ℕ
held [] = 0
held (q ∷ ps) = length q.records + held ps

held-append : (xs ys : List Page) → held (xs ++ ys) ≡ held xs + held ys
unfolding held
held-append [] ys = omega arith
held-append (q ∷ xs) ys = omega (arith, held-append xs ys)

pub held_one : (ps : List Page) → length ps ≡ 1 → held ps ≡ length (get_or ps 0 zero_page).records
unfolding held
held_one [] e = absurd (omega arith)
held_one (q ∷ []) e = omega arith
held_one (q ∷ r ∷ ps) e = absurd (omega arith)

-- pages left that hold at most c records are one page: two would be a pair
pub few_one : {f : File} {l p : ℕ} {ps : List Page} → Left f l p ps → held ps ≤ f.c → length ps ≡ 1
few_one (own n d e) h = refl
few_one (pair w s t e) h = refl
few_one {f} (apart {xs = xs} {ys = ys} w s t e) h =
    let a = held-append xs ys in
    let x = few_one s (omega arith) in
    let y = few_one t (omega arith) in
    let i = held_one xs x in
    let j = held_one ys y in
    absurd (false≢true (sym e ∙ pair_is f.c xs ys (record { one_left = x; one_right = y; few = omega arith })))

module _ (f : File) (ok : FileOk f) where
  abbrev g : ℕ
  g = f.g

  -- a page's own entries: the first counts its records, the others nothing
  module _ (l p x : ℕ) (n : PageNo f x) (d : (page_at f x).depth ≡ l) (e : (page_at f x).pattern ≡ p) where
    abbrev w : ℕ
    w = 2 ^ (g - l)

    own_page : (i : ℕ) → i < w → page_on f (p * w + i) ≡ page_at f x
    unfolding first_entry
    own_page i h = range_page f ok x (p * w + i) n (rw (d, e) (omega arith)) (rw (d, e) (omega arith))

    own_start : (i : ℕ) → i < w → first_entry g (page_on f (p * w + i)) ≡ p * w
    unfolding first_entry
    own_start i h = rw (own_page i h, d, e)

    own_first : records_at f (p * w + 0) ≡ length (page_at f x).records
    own_first =
        at_first f (p * w + 0) (own_start 0 (pow_pos (g - l)) ∙ (omega arith))
        ∙ ap (λ (q : Page). length q.records) (own_page 0 (pow_pos (g - l)))

    own_later : (i : ℕ) → suc i < w → records_at f (p * w + suc i) ≡ 0
    own_later i h = at_later f (p * w + suc i) (λ z. let u = own_start (suc i) h in omega arith)

    own_sum : (i : ℕ) → i < w → records_before f (suc (p * w + i)) ≡ records_before f (p * w) + length (page_at f x).records
    own_sum zero h =
        let z : p * w + 0 ≡ p * w = omega arith in
        before-step f (p * w + 0) ∙ rw own_first (ap (λ m. records_before f m + length (page_at f x).records) z)
    own_sum (suc i) h =
        let u = own_sum i (omega arith) in
        let z : suc (p * w + i) ≡ p * w + suc i = omega arith in
        let v = rw z at u in
        omega (arith, before-step f (p * w + suc i), own_later i h)

    own_span : records_before f ((p + 1) * w) ≡ records_before f (p * w) + length (page_at f x).records
    own_span =
        let h = pow_pos (g - l) in
        let z : suc (p * w + (w - 1)) ≡ (p + 1) * w = omega arith in
        rw z at (own_sum (w - 1) (omega arith))

  -- the entries of a pattern count the records of the pages left under it
  abbrev Span : ℕ → ℕ → ℕ → Type 0
  Span l p n = records_before f ((p + 1) * 2 ^ (g - l)) ≡ records_before f (p * 2 ^ (g - l)) + n

  span_halves : (l p m n : ℕ) → l < g → Span (suc l) (2 * p) m → Span (suc l) (2 * p + 1) n → Span l p (m + n)
  span_halves l p m n h u v =
      let a = rw (low_entries g l p h) at u in
      let b = rw (high_entries g l p h) at v in
      omega arith

  pub span : {l p : ℕ} {ps : List Page} → Left f l p ps → records_before f ((p + 1) * 2 ^ (g - l)) ≡ records_before f (p * 2 ^ (g - l)) + held ps
  span {l} {p} (own {x = x} n d e) = rw (held_one (page_at f x ∷ []) refl) (own_span l p x n d e)
  span {l} {p} (pair {xs = xs} {ys = ys} h s t e) =
      let o = is_pair_lem f.c xs ys e in
      let z = joined_length l p _ _ (twins h (left_tiles s) (left_tiles t) o.one_left o.one_right) in
      let i = held_one xs o.one_left in
      let j = held_one ys o.one_right in
      let k = held_one (join_pages (get_or xs 0 zero_page) (get_or ys 0 zero_page) ∷ []) refl in
      let r = span_halves l p (held xs) (held ys) (left_deep f ok s) (span s) (span t) in
      omega arith
  span {l} {p} (apart {xs = xs} {ys = ys} h s t e) =
      rw (held-append xs ys) (span_halves l p (held xs) (held ys) (left_deep f ok s) (span s) (span t))

  -- so the records under the pattern of any of its entries are those
  pub under
      : {l p : ℕ} {ps : List Page}
      → Left f l p ps
      → (j : ℕ)
      → p * 2 ^ (g - l) ≤ j
      → j < (p + 1) * 2 ^ (g - l)
      → records_under f l j ≡ held ps
  unfolding records_under
  under {l} {p} s j a b =
      let z : p * 2 ^ (g - l) + 2 ^ (g - l) ≡ (p + 1) * 2 ^ (g - l) = omega arith in
      rw (front g l p j a b, z) (omega (arith, span s))
