-- The indices of a call at two depths: the shorter is the front of the longer. Whether a page's pattern begins an entry, and whether a call
-- is of the page, are one question; and a call of a page is of one of its halves, by its next bit.
use Rattle.std.specs.Prelude.{ℕ, suc, ◌+◌, ◌-◌, ◌^◌, ◌<◌, ◌≤◌, ◌*◌, ◌/◌, ◌%◌, ◌≡◌, refl, Bool, true, false}
use Rattle.std.proofs.Common.{sym, ◌∙◌, arith, eqb-true, eq-eqb, ne_eqb}
use Rattle.std.proofs.lemmas.Bool.{eqb-false}
use Rattle.spec.specs.Key.{pseudo_key, first_bits, index, bit, begins}
use Rattle.spec.specs.File.{Page, File}
use Rattle.spec.specs.Split.{digit}
use Rattle.spec.specs.Proper.{In, Fit}
use Rattle.laws.specs.Key.{index-lt, index_onto, first_bits_prefix}

pub first_bits-half : (l key : ℕ) → l < 32 → first_bits (suc l) key / 2 ≡ first_bits l key
first_bits-half l key h = let e : suc l - l ≡ 1 = omega arith in rw e at (first_bits_prefix l (suc l) key (omega arith) h)

pub index_prefix : (l g k : ℕ) → l ≤ g → g ≤ 32 → index g k / 2 ^ (g - l) ≡ index l k
unfolding index
index_prefix l g k = first_bits_prefix l g (pseudo_key k)

-- of a file: every index is an entry's number, and every entry's number is some call's index
pub fit_32 : (f : File) → Fit f → f.g ≤ 32
fit_32 f fit = omega (arith, fit.depth)

pub index_in : (f : File) → Fit f → (k : ℕ) → index f.g k < 2 ^ f.g
index_in f fit k = index-lt f.g k (fit_32 f fit)

pub entry-call : (f : File) → Fit f → (e : ℕ) → e < 2 ^ f.g → (call : ℕ) × (index f.g call ≡ e)
entry-call f fit e l = index_onto f.g e fit.depth l

-- a page's pattern begins the entry of a call exactly if the call is of the page
pub begins_in : (g : ℕ) (q : Page) (k : ℕ) → q.depth ≤ g → g ≤ 32 → begins g q.depth q.pattern (index g k) ≡ true → In q k
unfolding begins
begins_in g q k l w e = sym (index_prefix q.depth g k l w) ∙ eqb-true _ _ e

pub in_begins : (g : ℕ) (q : Page) (k : ℕ) → q.depth ≤ g → g ≤ 32 → In q k → begins g q.depth q.pattern (index g k) ≡ true
unfolding begins
in_begins g q k l w i = eq-eqb _ _ (index_prefix q.depth g k l w ∙ i)

-- a call of one half of a page: its next bit, and it is of the page
index-half : (l k : ℕ) → l < 32 → index l k ≡ index (suc l) k / 2
unfolding index
index-half l k h = sym (first_bits-half l (pseudo_key k) h)

pub of_half : (v : Bool) (l k q : ℕ) → l < 32 → index (suc l) k ≡ 2 * q + digit v → (bit l k ≡ v) × (index l k ≡ q)
unfolding bit digit
of_half true l k q h e = (eq-eqb (index (suc l) k % 2) 1 (omega arith), omega (arith, index-half l k h))
of_half false l k q h e = (ne_eqb (index (suc l) k % 2) 1 (λ z. omega arith), omega (arith, index-half l k h))

pub to_half : (l k q : ℕ) → l < 32 → index l k ≡ q → index (suc l) k ≡ 2 * q + digit (bit l k)
unfolding bit digit
to_half l k q h e = two (bit l k) refl
  where
    two : (v : Bool) → bit l k ≡ v → index (suc l) k ≡ 2 * q + digit v
    two true u = let z : index (suc l) k % 2 ≡ 1 = eqb-true _ _ u in omega (arith, index-half l k h)
    two false u = let z : index (suc l) k % 2 ≡ 1 → ⊥ = eqb-false _ _ u in omega (arith, index-half l k h)
