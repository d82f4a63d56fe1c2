-- Which new page an entry of a split page goes to, by the bits of its number: the splits are followed as long as the entry is on the call's
-- side, and the last one that put it on the side of bit 1 made its page; if none did, it stays in the old one.
use Rattle.std.specs.Prelude.{ℕ, zero, suc, ◌+◌, ◌-◌, ◌/◌, ◌%◌, ◌^◌, ◌<◌, ◌≤◌, ◌≡◌, ◌⊎◌, ◌↔◌, List, [], ◌∷◌, Bool, not, length, get_or, eqb}
use Rattle.std.proofs.Math.Path.{refl}
use Rattle.std.proofs.Common.{sym, ap, ◌∙◌, arith, eq-eqb, ne_eqb}
use Rattle.std.proofs.Math.Logic.{inl, inr, ⊎_elim, by_cases}
use Rattle.std.proofs.Math.Bool.{true, false, false≢true, beq}
use Rattle.std.proofs.Math.Decide.{ℕ_discrete}
use Rattle.spec.specs.declared.Rec.{Rec}
use Rattle.spec.specs.declared.Op.{Op}
use Rattle.spec.specs.Basics.{if, Each}
use Rattle.spec.specs.Key.{index, bit, begins}
use Rattle.spec.specs.File.{Page, File, zero_page, page_at}
use Rattle.spec.specs.Job.{max_depth}
use Rattle.spec.specs.Split.{half, Grown, joined, grow, new_owner}
use Rattle.spec.specs.Turn.{home_of, rec_of, plan_of, new_count, goes_to}
use Rattle.spec.specs.Proper.{In, Fit, PageOk}
use Rattle.laws.specs.Tools.{if_case, if-true, if-false, beq_refl, first, rest, each_imp, each_at}
use Rattle.laws.specs.Key.{index_onto}
use Rattle.laws.specs.Turns.Prefix.{fit_32, index_in, index_prefix, begins_in, in_begins, of_half, to_half}
use Rattle.laws.specs.Turns.Owners.{new_owner_at, new_owner-none}
use Rattle.laws.specs.Turns.Grow.{grow_serves, grow_covers, grow-apart}
use Rattle.laws.specs.Turns.Work.{Plan}
use Rattle.laws.specs.Turns.SplitPlan.{made}
use Rattle.laws.specs.Turns.Interval.{interval_begins, goes_in}
use Rattle.laws.specs.Turns.Depths.{grow-deep, joined_own}

-- bit number d of entry e, of a directory of g bits
unfoldable pub entry_bit : ℕ → ℕ → ℕ → Bool
entry_bit g d e = eqb (e / 2 ^ (g - suc d) % 2) 1

-- the last split, from split k on, of a page of depth d, that puts entry e on the side of bit 1, among n splits for the call: `last` where none does
unfoldable pub last_one : ℕ → ℕ → ℕ → ℕ → ℕ → ℕ → ℕ → ℕ
last_one g call e zero d k last = last
last_one g call e (suc n) d k last =
    let so : ℕ = if (entry_bit g d e) k last in
    if (beq (entry_bit g d e) (bit d call)) (last_one g call e n (suc d) (suc k) so) so

-- the page by the split that made it, where the first new page is b + 1: 0 where none did
unfoldable pub by_last : ℕ → ℕ → ℕ
by_last b k = if (eqb k 0) 0 (b + k)

-- a split that leaves the entry on the call's side, and one that does not
module _ (g call e n d k last : ℕ) where
  last_on : (v : Bool) → entry_bit g d e ≡ v → bit d call ≡ v → last_one g call e (suc n) d k last ≡ last_one g call e n (suc d) (suc k) (if v k last)
  unfolding last_one
  last_on v a b = rw (a, b) (if-true _ _ (beq_refl v))

  last_off : (v : Bool) → entry_bit g d e ≡ v → bit d call ≡ not v → last_one g call e (suc n) d k last ≡ if v k last
  unfolding last_one
  last_off v a b = rw (a, b) (if-false _ _ (beq_not v))
    where
      beq_not : (v : Bool) → beq v (not v) ≡ false
      beq_not true = refl
      beq_not false = refl

-- an entry's bits are those of its calls
entry-bit : (g d q : ℕ) → d < g → g ≤ 32 → entry_bit g d (index g q) ≡ bit d q
unfolding entry_bit bit
entry-bit g d q l w = ap (λ i. eqb (i % 2) 1) (index_prefix (suc d) g q l w)

-- the entry of a call of the first page goes there; else it goes to one of the others
module _ (g : ℕ) (p : Page) (ps : List Page) (a k : ℕ) (w : g ≤ 32) (d : p.depth ≤ g) where
  owner_first : In p k → new_owner g (p ∷ ps) a (index g k) ≡ a
  unfolding new_owner
  owner_first i = if-true _ _ (in_begins g p k d w i)

  owner_later : (In p k → ⊥) → new_owner g (p ∷ ps) a (index g k) ≡ new_owner g ps (suc a) (index g k)
  unfolding new_owner
  owner_later n = if_case (λ y. y ≡ new_owner g ps (suc a) (index g k)) (λ e. absurd (n (begins_in g p k d w e))) (λ e. refl)

owner-none
    : (g : ℕ) (ps : List Page) (a k : ℕ)
    → g ≤ 32
    → Each (λ q. q.depth ≤ g) ps
    → Each (λ q. In q k → ⊥) ps
    → new_owner g ps a (index g k) ≡ 0
unfolding new_owner
owner-none g [] a k w d h = refl
owner-none g (p ∷ ps) a k w d h = owner_later g p ps a k w (first d) (first h) ∙ owner-none g ps (suc a) k w (rest d) (rest h)

-- of an entry that had been put on the side of bit 1 by split `last`, before split k: the splits from k on do not, and it goes to no new page of
-- theirs; or the last that does is r, and the page y that it goes to is that split's
abbrev ByLast : ℕ → ℕ → ℕ → ℕ → ℕ → Type 0
ByLast b k last y r = ((y ≡ 0) × (r ≡ last)) ⊎ ((y ≡ b + r) × (k ≤ r))

-- the same, from the first split on, as one number
by_last_zero : (b r : ℕ) → r ≡ 0 → by_last b r ≡ 0
unfolding by_last
by_last_zero b r z = if-true _ _ (eq-eqb r 0 z)

by_last_one : (b r : ℕ) → (r ≡ 0 → ⊥) → by_last b r ≡ b + r
unfolding by_last
by_last_one b r n = if-false _ _ (ne_eqb r 0 n)

by_last_lem : (b y r : ℕ) → ByLast b 1 0 y r → y ≡ by_last b r
by_last_lem b y r (inl z) = z.0 ∙ sym (by_last_zero b r z.1)
by_last_lem b y r (inr z) = z.0 ∙ sym (by_last_one b r (λ q. omega arith))

-- one split of page p, split k, for the call: `t` is what becomes of the half that the call is in, and q is a call of the entry
module _ (g call b k last : ℕ) (p : Page) (t : Grown) (q : ℕ)
    (w : g ≤ 32)
    (l : p.depth < g)
    (i : In p q)
    (ds : Each (λ z. z.depth ≤ g) (t.old ∷ t.news))
  where
    abbrev entry : ℕ
    entry = index g q

    abbrev rest_splits : ℕ
    rest_splits = length t.news

    eb : {u : Bool} → bit p.depth q ≡ u → entry_bit g p.depth entry ≡ u
    eb z = entry-bit g p.depth q l w ∙ z

    mine : {u : Bool} → bit p.depth q ≡ u → In (half u p) q
    unfolding half
    mine z = rw z at (to_half p.depth q p.pattern (omega arith) i)

    other : {u v : Bool} → bit p.depth q ≡ u → (u ≡ v → ⊥) → In (half v p) q → ⊥
    unfolding half
    other {v} z ne h = ne (sym z ∙ (of_half v p.depth q p.pattern (omega arith) h).0)

    half-deep : (v : Bool) → (half v p).depth ≤ g
    unfolding half
    half-deep v = l

    one_split
        : (v u : Bool) (a : ℕ)
        → bit p.depth call ≡ v
        → bit p.depth q ≡ u
        → suc a ≡ b + k
        → Each (λ z. In z q → In (half v p) q) (t.old ∷ t.news)
        → (In (half v p) q → Each (λ z. In z q → ⊥) t.news → In t.old q)
        → Each (λ z. In z q → In t.old q → ⊥) t.news
        → (In (half v p) q
        → (last : ℕ)
        → ByLast b (suc k) last (new_owner g t.news (suc (suc a)) entry) (last_one g call entry rest_splits (suc p.depth) (suc k) last))
        → ByLast b k last (new_owner g (joined v (half (not v) p) t).news (suc a) entry)
        (last_one g call entry (length (joined v (half (not v) p) t).news) p.depth k last)
    unfolding joined if
    one_split true true a vb ub num inside covers apart ih =
        let on = last_on g call entry rest_splits p.depth k last true (eb ub) vb in
        ⊎_elim
        (λ z.
        let old = covers (mine ub) (new_owner-none g t.news (suc a) q w (rest ds) z.0) in
        let y = owner_first g t.old t.news (suc a) q w (first ds) old in
        inr (omega (arith, z.1), omega (arith, z.1)))
        (λ z.
        let o = new_owner_at g t.news (suc (suc a)) entry zero_page (λ y. omega arith) in
        let here = begins_in g (get_or t.news o.0 zero_page) q (each_at t.news o.0 zero_page o.1 (rest ds)) w o.3 in
        let y = owner_later g t.old t.news (suc a) q w (first ds) (λ h. each_at t.news o.0 zero_page o.1 apart here h) in
        inr (omega arith))
        (ih (mine ub) k)
    one_split true false a vb ub num inside covers apart ih =
        inl (
          owner-none g (t.old ∷ t.news) (suc a) q w ds (each_imp (λ z f h. other ub false≢true (f h)) inside),
          last_off g call entry rest_splits p.depth k last false (eb ub) vb,
        )
    one_split false true a vb ub num inside covers apart ih =
        let off = last_off g call entry rest_splits p.depth k last true (eb ub) vb in
        let y = owner_first g (half true p) t.news (suc a) q w (half-deep true) (mine ub) in
        inr (omega arith)
    one_split false false a vb ub num inside covers apart ih =
        let on = last_on g call entry rest_splits p.depth k last false (eb ub) vb in
        let y = owner_later g (half true p) t.news (suc a) q w (half-deep true) (other ub false≢true) in
        ⊎_elim (λ z. inl (y ∙ z.0, on ∙ z.1)) (λ z. inr (omega arith)) (ih (mine ub) last)

-- all the splits
grow_by
    : (g c m b k last a : ℕ) (p : Page) (r : Rec) (q : ℕ)
    → g ≤ 32
    → p.depth + m ≤ 32
    → In p q
    → suc a ≡ b + k
    → Each (λ z. z.depth ≤ g) ((grow c m p r).old ∷ (grow c m p r).news)
    → ByLast b k last (new_owner g (grow c m p r).news (suc a) (index g q))
    (last_one g r.call (index g q) (length (grow c m p r).news) p.depth k last)
unfolding grow half new_owner last_one
grow_by g c zero b k last a p r q w d i num = λ ds. inl (refl, refl)
grow_by g c (suc m) b k last a p r q w d i num =
    let v = bit p.depth r.call in
    if_case
    (λ (t : Grown).
    Each (λ z. z.depth ≤ g) (t.old ∷ t.news)
    → ByLast b k last (new_owner g t.news (suc a) (index g q)) (last_one g r.call (index g q) (length t.news) p.depth k last))
    (λ e ds. inl (refl, refl))
    (λ e ds.
    let own = (joined_own v _ _ ds).0 in
    let deep : p.depth < g = omega (arith, first (grow-deep c m (half v p) r), first own) in
    one_split g r.call b k last p _ q w deep i own v (bit p.depth q) a refl refl num
    (each_imp (λ z s. s.inside q) (grow_serves c m (half v p) r (omega arith)))
    (λ h. grow_covers c m (half v p) r q (omega arith) h)
    (grow-apart c m (half v p) r q (omega arith))
    (λ h last'. grow_by g c m b (suc k) last' (suc a) (half v p) r q w (omega arith) h (omega arith) own))

-- the new page that an entry of page p goes to, where b + 1 is the first new page's number: 0 where it stays
pub new_owner_by
    : (g c m b : ℕ) (p : Page) (r : Rec) (e : ℕ)
    → g ≤ max_depth
    → p.depth + m ≤ 32
    → Each (λ z. z.depth ≤ g) ((grow c m p r).old ∷ (grow c m p r).news)
    → e < 2 ^ g
    → begins g p.depth p.pattern e ≡ true
    → new_owner g (grow c m p r).news (suc b) e
    ≡ by_last b (last_one g r.call e (length (grow c m p r).news) p.depth 1 0)
new_owner_by g c m b p r e most d ds l h =
    let k = index_onto g e most l in
    let w : g ≤ 32 = omega arith in
    let deep : p.depth ≤ g = omega (arith, first (grow-deep c m p r), first ds) in
    let i = begins_in g p k.0 deep w (rw k.1 h) in
    rw k.1 at (by_last_lem b _ _ (grow_by g c m b 1 0 b p r k.0 w d i (omega arith) ds))

-- a split of page x that the depth allows: the last split that puts entry e on the side of bit 1
abbrev pub last_split : File → Op → ℕ → ℕ → ℕ
last_split f op x e = last_one f.g op.call e (new_count f op x) (page_at f x).depth 1 0

module _ (f : File) (op : Op) (x : ℕ) (fit : Fit f) (ok : PageOk f.g f.c (page_at f x)) (pl : Plan f op x) where
  -- where an entry that the page's pattern begins goes
  goes_by
      : (b e : ℕ)
      → e < 2 ^ f.g
      → begins f.g (page_at f x).depth (page_at f x).pattern e ≡ true
      → goes_to f op x b e ≡ by_last b (last_split f op x e)
  unfolding goes_to plan_of new_count
  goes_by b e l h =
      new_owner_by f.g f.c (suc f.g) b (page_at f x) (rec_of op) e fit.depth (omega (arith, fit.depth, ok.deep))
      (each_imp (λ q m. m.ok.deep) (made f op x fit ok pl)) l h

  -- where it goes at all, by its last split
  pub goes_last : (b e : ℕ) → e < 2 ^ f.g → (goes_to f op x b e ≡ 0 → ⊥) → (goes_to f op x b e ≡ b + last_split f op x e) × (0 < last_split f op x e)
  goes_last b e l n =
      let r = goes_in f op x fit ok pl b e l n in
      let g = goes_by b e l (interval_begins f op x fit ok pl e r.0 r.1) in
      by_cases (ℕ_discrete (last_split f op x e) 0) (λ z. absurd (n (g ∙ by_last_zero b _ z)))
      (λ z. (g ∙ by_last_one b _ z, omega arith))

  -- the call's own entry stays exactly if no split puts it on the side of bit 1
  pub own_stays : (b : ℕ) → (goes_to f op x b (home_of f op) ≡ 0) ↔ (last_split f op x (home_of f op) ≡ 0)
  unfolding home_of
  own_stays b = (
    λ z. by_cases (ℕ_discrete (last_split f op x (home_of f op)) 0) (λ q. q) (λ q. omega (arith, g ∙ by_last_one b _ q)),
    λ z. g ∙ by_last_zero b _ z,
  )
    where
      g : goes_to f op x b (home_of f op) ≡ by_last b (last_split f op x (home_of f op))
      g = goes_by b (home_of f op) (index_in f fit op.call) (in_begins f.g (page_at f x) op.call ok.deep (fit_32 f fit) pl.here)
