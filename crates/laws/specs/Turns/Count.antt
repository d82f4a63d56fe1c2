-- The number of new pages: a full page is split as often as the call shares leading bits with one of its records beyond the page's depth,
-- and once more.
use Rattle.std.specs.Prelude.{ℕ, zero, suc, ◌+◌, ◌-◌, ◌<◌, ◌≤◌, ◌≡◌, refl, List, [], Bool, true, false, not, length}
use Rattle.std.proofs.Common.{sym, ap, ◌∙◌, arith, lt-ltb, le-ltb}
use Rattle.std.proofs.Math.Logic.{by_cases}
use Rattle.std.proofs.Math.Decide.{dec_le}
use Rattle.spec.specs.declared.Rec.{Rec}
use Rattle.spec.specs.declared.Op.{Op}
use Rattle.spec.specs.Basics.{Each}
use Rattle.spec.specs.Key.{bit}
use Rattle.spec.specs.File.{Page, File, page_at}
use Rattle.spec.specs.Job.{max_depth}
use Rattle.spec.specs.Split.{has_bit, with_bit, half, added, Grown, joined, grow, all_share, least_shared, split_count}
use Rattle.spec.specs.Turn.{rec_of, plan_of, new_count}
use Rattle.spec.specs.Proper.{In, Fit, PageOk}
use Rattle.laws.specs.Tools.{if-true, if-false, beq_refl, beq-true, each_imp, filter_all, filter-few}
use Rattle.laws.specs.Turns.Shared.{Shares, least-most, least_all, not-all_share, next_bit, bit-next}

pub with_bit_all : (v : Bool) (l : ℕ) (rs : List Rec) → Each (λ r. bit l r.call ≡ v) rs → with_bit v l rs ≡ rs
unfolding with_bit has_bit
with_bit_all v l rs h = filter_all (has_bit v l) rs (each_imp (λ r e. rw e (beq_refl v)) h)

pub with_bit-few : (v : Bool) (l : ℕ) (rs : List Rec) → (Each (λ r. bit l r.call ≡ v) rs → ⊥) → length (with_bit v l rs) < length rs
unfolding with_bit has_bit
with_bit-few v l rs h = filter-few (has_bit v l) rs (λ t. h (each_imp (λ r e. beq-true _ v e) t))

-- the records of a page share its depth with a call of the page
pub shares_of : (p : Page) (k : ℕ) → Each (λ a. In p a.call) p.records → In p k → Shares p.depth p.records k
shares_of p k h i = each_imp (λ a e. e ∙ sym i) h

-- a page with room, and a full one
pub grow-fits : (c n : ℕ) (p : Page) (r : Rec) → length p.records < c → grow c (suc n) p r ≡ record { old = added p r; news = [] }
unfolding grow
grow-fits c n p r h = if-true _ _ (lt-ltb (length p.records) c h)

pub grow-full
    : (c n : ℕ) (p : Page) (r : Rec)
    → c ≤ length p.records
    → grow c (suc n) p r
    ≡ joined (bit p.depth r.call) (half (not (bit p.depth r.call)) p) (grow c n (half (bit p.depth r.call) p) r)
unfolding grow
grow-full c n p r h = if-false _ _ (le-ltb (length p.records) c h)

joined-count : (v : Bool) (q : Page) (t : Grown) → length (joined v q t).news ≡ suc (length t.news)
unfolding joined
joined-count true q t = refl
joined-count false q t = refl

count_fits : (c n : ℕ) (p : Page) (r : Rec) → 0 < n → length p.records < c → length (grow c n p r).news ≡ 0
count_fits c zero p r z h = absurd (omega arith)
count_fits c (suc n) p r z h = ap (λ (t : Grown). length t.news) (grow-fits c n p r h)

pub count-full
    : (c n : ℕ) (p : Page) (r : Rec)
    → c ≤ length p.records
    → length (grow c (suc n) p r).news ≡ suc (length (grow c n (half (bit p.depth r.call) p) r).news)
count-full c n p r h = ap (λ (t : Grown). length t.news) (grow-full c n p r h) ∙ joined-count _ _ _

-- the number of splits of a full page whose records share its depth with the call
grow-count
    : (c n : ℕ) (p : Page) (r : Rec)
    → p.depth + n ≤ 32
    → length p.records ≡ c
    → Shares p.depth p.records r.call
    → least_shared p.records r.call + 2 ≤ p.depth + n
    → length (grow c n p r).news ≡ least_shared p.records r.call + 1 - p.depth
unfolding half
grow-count c zero p r w e s h = let k = least-most _ r.call _ (omega arith) s in absurd (omega arith)
grow-count c (suc n) p r w e s h =
    let l : p.depth < 32 = omega arith in
    let k = least-most _ r.call _ (omega arith) s in
    let v = bit p.depth r.call in
    let full = count-full c n p r (omega arith) in
    by_cases (dec_le (suc p.depth) (least_shared p.records r.call))
    (λ q.
    let t = least_all p.records r.call (suc p.depth) q in
    let z = with_bit_all v p.depth p.records (next_bit _ p.records r.call t) in
    let ih = grow-count c n (half v p) r (omega arith) (rw z e) (rw z t) (rw z (omega arith)) in
    let u = ap (λ w. least_shared w r.call) z in
    omega arith)
    (λ q.
    let few = with_bit-few v p.depth p.records (λ t. q (least-most _ r.call _ l (bit-next _ p.records r.call l s t))) in
    let fits = count_fits c n (half v p) r (omega arith) (omega arith) in
    omega arith)

-- "How many leading bits two pseudo keys share settles n": of a full page for which "no depth" is not the answer
pub split_count_lem
    : (g c : ℕ) (p : Page) (r : Rec)
    → g ≤ max_depth
    → PageOk g c p
    → In p r.call
    → c ≤ length p.records
    → all_share g p.records r.call ≡ false
    → length (grow c (suc g) p r).news ≡ split_count p r.call
unfolding split_count
split_count_lem g c p r w h i full e =
    let l = not-all_share g p.records r.call (omega arith) e in
    grow-count c (suc g) p r (omega (arith, h.deep)) (omega (arith, h.room)) (shares_of p r.call h.homed i) (omega arith)

-- "The largest is g − l"
pub split_most
    : (g : ℕ) (p : Page) (k : ℕ)
    → g ≤ 32
    → all_share g p.records k ≡ false
    → split_count p k ≤ g - p.depth
unfolding split_count
split_most g p k w e = let l = not-all_share g p.records k w e in omega arith

-- of an insert of a job: the n of turn (d)
pub new_count_lem
    : (f : File) (op : Op) (x : ℕ)
    → Fit f
    → PageOk f.g f.c (page_at f x)
    → In (page_at f x) op.call
    → f.c ≤ length (page_at f x).records
    → all_share f.g (page_at f x).records op.call ≡ false
    → new_count f op x ≡ split_count (page_at f x) op.call
unfolding new_count plan_of
new_count_lem f op x fit ok i full e = split_count_lem f.g f.c (page_at f x) (rec_of op) fit.depth ok i full e
