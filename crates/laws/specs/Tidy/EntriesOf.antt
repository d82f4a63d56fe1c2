-- The entries of a pattern and of a page: how many they are, which, and that each of a page's entries names it.
use Rattle.std.specs.Prelude.{ℕ, suc, ◌+◌, ◌-◌, ◌*◌, ◌/◌, ◌^◌, ◌<◌, ◌≤◌, ◌≡◌, List}
use Rattle.std.proofs.Common.{ap, ◌∙◌, arith, pow-suc, mul-le-mul_right, pow_pos, pow-add, eq-eqb, eqb-true}
use Rattle.std.proofs.Math.Pow.{high, split}
use Rattle.spec.specs.Basics.{Each}
use Rattle.spec.specs.Key.{begins}
use Rattle.spec.specs.File.{Page, File, zero_page, page_at, entry_at}
use Rattle.spec.specs.Proper.{PageNo, PageOk, FileOk}
use Rattle.spec.specs.Tidy.{first_entry}
use Rattle.laws.specs.Tools.{each_at}
use Rattle.laws.specs.Tidy.Tiles.{Tiles, tiles_some, tiles_deep}
use Rattle.laws.specs.Tidy.Left.{Left, own, pair, apart}
use Rattle.laws.specs.Tidy.Entries.{page_on}

-- ---- of a pattern of l bits

-- it has twice the entries of a half
pub twice : (d l : ℕ) → l < d → 2 ^ (d - l) ≡ 2 ^ (d - suc l) * 2
twice d l h = let z : d - l ≡ suc (d - suc l) = omega arith in ap (λ n. 2 ^ n) z ∙ pow-suc 2 (d - suc l)

pub low_entries : (g l p : ℕ) → l < g → 2 * p * 2 ^ (g - suc l) ≡ p * 2 ^ (g - l)
low_entries g l p h = rw (twice g l h) (omega arith)

pub high_entries : (g l p : ℕ) → l < g → (2 * p + 1 + 1) * 2 ^ (g - suc l) ≡ (p + 1) * 2 ^ (g - l)
high_entries g l p h = rw (twice g l h) (omega arith)

pub entries_in : (g l p : ℕ) → l ≤ g → p < 2 ^ l → (p + 1) * 2 ^ (g - l) ≤ 2 ^ g
entries_in g l p h s =
    let e : l + (g - l) ≡ g = omega arith in
    let u : 2 ^ g ≡ 2 ^ l * 2 ^ (g - l) = rw e at (pow-add 2 l (g - l)) in
    rw u (mul-le-mul_right (2 ^ (g - l)) (omega arith))

pub front : (g l p j : ℕ) → p * 2 ^ (g - l) ≤ j → j < (p + 1) * 2 ^ (g - l) → j / 2 ^ (g - l) ≡ p
front g l p j a b =
    let e : p * 2 ^ (g - l) + (j - p * 2 ^ (g - l)) ≡ j = omega arith in
    rw e at (high p (g - l) {lo = j - p * 2 ^ (g - l)} (omega arith))

-- no pattern that pages of a directory part has more bits than its entries
pub tiles_under : (d : ℕ) {l p : ℕ} {ps : List Page} → Tiles l p ps → Each (λ q. q.depth ≤ d) ps → l ≤ d
tiles_under d {ps = ps} t h =
    let a = each_at ps 0 zero_page (tiles_some t) (tiles_deep t) in
    let b = each_at ps 0 zero_page (tiles_some t) h in
    omega arith

pub left_deep : (f : File) → FileOk f → {l p : ℕ} {ps : List Page} → Left f l p ps → l ≤ f.g
left_deep f ok (own {x = x} n d e) = omega (arith, (ok.pages x n).deep)
left_deep f ok (pair h s t e) = let a = left_deep f ok s in omega arith
left_deep f ok (apart h s t e) = let a = left_deep f ok s in omega arith

pub left_small : (f : File) → FileOk f → {l p : ℕ} {ps : List Page} → Left f l p ps → p < 2 ^ l
left_small f ok (own {x = x} n d e) = rw (← d, ← e) (ok.pages x n).small
left_small f ok {l} (pair w s t e) = let u = left_small f ok s in omega (arith, pow-suc 2 l)
left_small f ok {l} (apart w s t e) = let u = left_small f ok s in omega (arith, pow-suc 2 l)

-- ---- of a page

-- all of them are in the directory
pub page_range : (g c : ℕ) (q : Page) → PageOk g c q → first_entry g q + 2 ^ (g - q.depth) ≤ 2 ^ g
unfolding first_entry
page_range g c q h =
    let z : q.depth + (g - q.depth) ≡ g = omega (arith, h.deep) in
    let s = mul-le-mul_right (2 ^ (g - q.depth)) h.small in
    let t = pow-add 2 q.depth (g - q.depth) in
    let w : first_entry g q + 2 ^ (g - q.depth) ≤ 2 ^ (q.depth + (g - q.depth)) = omega (arith, s, t) in
    rw z at w

-- a page of the file, by its number: its first entry, and the entry behind its last
abbrev pub entry_from : File → ℕ → ℕ
entry_from f x = first_entry f.g (page_at f x)

abbrev pub entry_to : File → ℕ → ℕ
entry_to f x = entry_from f x + 2 ^ (f.g - (page_at f x).depth)

-- a page's entries all name it
range_entry : (f : File) → FileOk f → (x j : ℕ) → PageNo f x → entry_from f x ≤ j → j < entry_to f x → entry_at f j ≡ x
unfolding first_entry begins
range_entry f ok x j n a b =
    let q = page_at f x in
    let d = f.g - q.depth in
    let r = page_range f.g f.c q (ok.pages x n) in
    let z : q.pattern * 2 ^ d + (j - q.pattern * 2 ^ d) ≡ j = omega arith in
    let e : j / 2 ^ d ≡ q.pattern = rw z at (high q.pattern d {lo = j - q.pattern * 2 ^ d} (omega arith)) in
    ok.owner j x (omega arith) n (eq-eqb _ _ e)

pub range_page : (f : File) → FileOk f → (x j : ℕ) → PageNo f x → entry_from f x ≤ j → j < entry_to f x → page_on f j ≡ page_at f x
unfolding page_on
range_page f ok x j n a b = ap (page_at f) (range_entry f ok x j n a b)

pub own_page : (f : File) → FileOk f → (x : ℕ) → PageNo f x → page_on f (entry_from f x) ≡ page_at f x
own_page f ok x n = let pos = pow_pos (f.g - (page_at f x).depth) in range_page f ok x _ n (omega arith) (omega arith)

-- a page's first entry is an entry, and names it; and no entry before it does
pub first_within : (f : File) → FileOk f → (x : ℕ) → PageNo f x → entry_from f x < 2 ^ f.g
first_within f ok x n = let r = page_range f.g f.c (page_at f x) (ok.pages x n) in omega (arith, pow_pos (f.g - (page_at f x).depth))

pub first_names : (f : File) → FileOk f → (x : ℕ) → PageNo f x → entry_at f (entry_from f x) ≡ x
first_names f ok x n = range_entry f ok x (entry_from f x) n (omega arith) (omega (arith, pow_pos (f.g - (page_at f x).depth)))

pub not-before : (f : File) → FileOk f → (x j : ℕ) → j < 2 ^ f.g → entry_at f j ≡ x → entry_from f x ≤ j
unfolding first_entry begins
not-before f ok x j l e =
    let q = page_at f x in
    let at : j / 2 ^ (f.g - q.depth) ≡ q.pattern = eqb-true _ _ (rw e at (ok.names j l)) in
    rw (← at) (omega (arith, split j (f.g - q.depth)))
