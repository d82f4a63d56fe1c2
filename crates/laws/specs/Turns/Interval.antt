-- The entries that a split changes are one interval: the old page keeps the lowest part of the page's range, so they are those from the end of
-- the old page's range, as it will be, to the end of the page's own. The split's turns write them one after another.
use Rattle.std.specs.Prelude.{ℕ, suc, ◌+◌, ◌-◌, ◌*◌, ◌/◌, ◌^◌, ◌<◌, ◌≤◌, ◌≡◌, List, true, get_or, ltb}
use Rattle.std.proofs.Math.Path.{refl}
use Rattle.std.proofs.Common.{sym, ap, ◌∙◌, arith, mul_assoc, mul-le-mul_right, le-div_iff_mul-le, div-lt_iff_lt-mul, pow_pos, pow-add, eqb-true, eq-eqb, lt-ltb, le-ltb}
use Rattle.std.proofs.Math.Logic.{by_cases}
use Rattle.std.proofs.Math.Nat.{div-eq_of_lt-le}
use Rattle.std.proofs.Math.Decide.{ℕ_discrete, dec_lt, dec_le}
use Rattle.std.proofs.Math.Pow.{pow-lt}
use Rattle.spec.specs.declared.Op.{Op}
use Rattle.spec.specs.declared.Part.TheVariants.{WriteNew, WriteEntry, UnlockNew}
use Rattle.spec.specs.declared.Stage.TheVariants.{Split}
use Rattle.spec.specs.Basics.{if}
use Rattle.spec.specs.Key.{index, begins}
use Rattle.spec.specs.File.{Page, File, zero_page, page_at, entry_at}
use Rattle.spec.specs.Job.{no_op}
use Rattle.spec.specs.State.{State}
use Rattle.spec.specs.Turn.{plan_of, new_count, goes_to, entries_from}
use Rattle.spec.specs.Run.{stage_of}
use Rattle.spec.specs.Proper.{In, Fit, PageOk}
use Rattle.laws.specs.Tools.{if-true, if-false, first, rest, each_at}
use Rattle.laws.specs.Turns.Prefix.{fit_32, entry-call, begins_in, in_begins}
use Rattle.laws.specs.Turns.Plans.{goes_any, entries_case}
use Rattle.laws.specs.Turns.Good.{Fine, Good}
use Rattle.laws.specs.Turns.Work.{Plan, Work}
use Rattle.laws.specs.Turns.SplitPlan.{made, serves, stays_old, old_stays, goes_new}
use Rattle.laws.specs.Turns.Does.{Coherent}
use Rattle.laws.specs.Turns.Owned.{OwnsFrom}
use Rattle.laws.specs.Turns.Settled.{Settled}
use Rattle.laws.specs.Turns.Depths.{Lowest, plan_low, plan_deeper}

-- the first entry of a page's range, of a directory of g bits, and the first one past it
unfoldable pub start_of : ℕ → Page → ℕ
start_of g p = p.pattern * 2 ^ (g - p.depth)

unfoldable pub end_of : ℕ → Page → ℕ
end_of g p = (p.pattern + 1) * 2 ^ (g - p.depth)

pub end_start : (g : ℕ) (p : Page) → end_of g p ≡ start_of g p + 2 ^ (g - p.depth)
unfolding start_of end_of
end_start g p = omega arith

-- a page begins exactly the entries of its range
pub begins_range : (g : ℕ) (p : Page) (e : ℕ) → begins g p.depth p.pattern e ≡ true → (start_of g p ≤ e) × (e < end_of g p)
unfolding begins start_of end_of
begins_range g p e h =
    let z : e / 2 ^ (g - p.depth) ≡ p.pattern = eqb-true _ _ h in
    let pos = pow_pos (g - p.depth) in
    ((le-div_iff_mul-le {x = p.pattern} pos).0 (omega arith), (div-lt_iff_lt-mul {y = p.pattern + 1} pos).0 (omega arith))

pub range_begins : (g : ℕ) (p : Page) (e : ℕ) → start_of g p ≤ e → e < end_of g p → begins g p.depth p.pattern e ≡ true
unfolding begins start_of end_of
range_begins g p e l u = eq-eqb _ _ (div-eq_of_lt-le (2 ^ (g - p.depth)) l u)

pub end_le : (g : ℕ) (p : Page) → p.depth ≤ g → p.pattern < 2 ^ p.depth → end_of g p ≤ 2 ^ g
unfolding end_of
end_le g p d s =
    let e : p.depth + (g - p.depth) ≡ g = omega arith in
    let z : 2 ^ p.depth * 2 ^ (g - p.depth) ≡ 2 ^ g = sym (pow-add 2 p.depth (g - p.depth)) ∙ ap (λ n. 2 ^ n) e in
    omega (arith, mul-le-mul_right (2 ^ (g - p.depth)) s)

-- the lowest part of a page's range starts where the page's does
lowest_start : (g m : ℕ) (p q : Page) → q.depth ≤ g → Lowest m p q → start_of g q ≡ start_of g p
unfolding start_of
lowest_start g m p q d h =
    let e : m + (g - q.depth) ≡ g - p.depth = omega arith in
    rw h.1
    (mul_assoc p.pattern (2 ^ m) (2 ^ (g - q.depth))
    ∙ ap (λ w. p.pattern * w) (sym (pow-add 2 m (g - q.depth)) ∙ ap (λ n. 2 ^ n) e))

-- and ends before it, where the part's page is deeper
lowest_end : (g m : ℕ) (p q : Page) → q.depth ≤ g → Lowest m p q → p.depth < q.depth → end_of g q < end_of g p
lowest_end g m p q d h l =
    let k : 2 ^ (g - q.depth) < 2 ^ (g - p.depth) = pow-lt (omega arith) in
    omega (arith, lowest_start g m p q d h, end_start g p, end_start g q)

-- the entries that a split of page x changes: from the first of these numbers on, up to the second
abbrev pub goes_from : File → Op → ℕ → ℕ
goes_from f op x = end_of f.g (plan_of f op x).old

abbrev pub goes_below : File → ℕ → ℕ
goes_below f x = end_of f.g (page_at f x)

-- a split of page x that the depth allows
module _ (f : File) (op : Op) (x : ℕ) (fit : Fit f) (ok : PageOk f.g f.c (page_at f x)) (pl : Plan f op x) where
  abbrev old : Page
  old = (plan_of f op x).old

  abbrev lo : ℕ
  lo = goes_from f op x

  abbrev hi : ℕ
  hi = goes_below f x

  old-deep : old.depth ≤ f.g
  old-deep = (first (made f op x fit ok pl)).ok.deep

  pub interval_lt : 0 < new_count f op x → lo < hi
  interval_lt h = lowest_end f.g _ (page_at f x) old old-deep (plan_low f op x) (first (plan_deeper f op x h))

  interval_end : hi ≤ 2 ^ f.g
  interval_end = end_le f.g (page_at f x) ok.deep ok.small

  same_start : start_of f.g old ≡ start_of f.g (page_at f x)
  same_start = lowest_start f.g _ (page_at f x) old old-deep (plan_low f op x)

  -- the page's first entry stays
  pub start_stays : start_of f.g (page_at f x) < lo
  start_stays = omega (arith, same_start, end_start f.g old, pow_pos (f.g - old.depth))

  -- an entry in the interval is of the page, and goes to a new one; and an entry that goes is in the interval
  pub interval_begins : (e : ℕ) → lo ≤ e → e < hi → begins f.g (page_at f x).depth (page_at f x).pattern e ≡ true
  interval_begins e l u = range_begins f.g (page_at f x) e (omega (arith, end_start f.g old, same_start)) u

  interval_in : (k : ℕ) → lo ≤ index f.g k → index f.g k < hi → In (page_at f x) k
  interval_in k l u = begins_in f.g (page_at f x) k ok.deep (fit_32 f fit) (interval_begins _ l u)

  call_goes : (b k : ℕ) → lo ≤ index f.g k → index f.g k < hi → goes_to f op x b (index f.g k) ≡ 0 → ⊥
  call_goes b k l u z =
      let i' = stays_old f op x fit ok pl k (interval_in k l u) (goes_any f op x b 0 _ z) in
      let r = begins_range f.g old _ (in_begins f.g old k old-deep (fit_32 f fit) i') in
      omega arith

  goes_call : (b k : ℕ) → (goes_to f op x b (index f.g k) ≡ 0 → ⊥) → (lo ≤ index f.g k) × (index f.g k < hi)
  unfolding new_count
  goes_call b k n =
      let o = goes_new f op x fit ok pl b _ _ refl n in
      let i = (each_at (plan_of f op x).news o.0 zero_page o.1 (rest (serves f op x fit ok pl))).inside k (o.3 k refl) in
      let r = begins_range f.g (page_at f x) _ (in_begins f.g (page_at f x) k ok.deep (fit_32 f fit) i) in (
        by_cases (dec_le lo (index f.g k)) (λ l. l)
            (λ l.
            let b' = range_begins f.g old (index f.g k) (omega (arith, same_start)) (omega arith) in
            absurd (n (goes_any f op x 0 b _ (old_stays f op x fit ok pl k (begins_in f.g old k old-deep (fit_32 f fit) b'))))),
        r.1,
      )

  pub in_goes : (b e : ℕ) → lo ≤ e → e < hi → goes_to f op x b e ≡ 0 → ⊥
  in_goes b e l u z =
      let k = entry-call f fit e (let t = interval_end in omega arith) in
      call_goes b k.0 (rw k.1 l) (rw k.1 u) (rw k.1 z)

  pub goes_in : (b e : ℕ) → e < 2 ^ f.g → (goes_to f op x b e ≡ 0 → ⊥) → (lo ≤ e) × (e < hi)
  goes_in b e w n =
      let k = entry-call f fit e w in
      rw k.1 at (goes_call b k.0 (λ z. n (rw k.1 at z)))

  pub out_stays : (b e : ℕ) → e < 2 ^ f.g → ((lo ≤ e) × (e < hi) → ⊥) → goes_to f op x b e ≡ 0
  out_stays b e w n = by_cases (ℕ_discrete (goes_to f op x b e) 0) (λ z. z) (λ z. absurd (n (goes_in b e w z)))

  -- the next part of the split, from entry i on: k is the first entry of the interval from there on, and the entries of the interval from there
  -- on still name page x
  entries_at
      : (b i k : ℕ)
      → i ≤ k
      → lo ≤ k
      → ((e : ℕ) → i ≤ e → lo ≤ e → k ≤ e)
      → ((e : ℕ) → i ≤ e → lo ≤ e → e < hi → entry_at f e ≡ x)
      → entries_from f op x b i ≡ if (ltb k hi) (WriteEntry k) UnlockNew
  entries_at b i k from low least named =
      entries_case (λ p. p ≡ if (ltb k hi) (WriteEntry k) UnlockNew) f op x b i
      (λ c h.
      let r = goes_in b c h.within h.goes in
      let l = least c h.from r.0 in
      by_cases (ℕ_discrete c k) (λ (z : c ≡ k). rw z (sym (if-true _ _ (lt-ltb k hi (omega arith)))))
      (λ z. absurd (in_goes 0 k low (omega arith) (h.passed k from (omega arith) (named k from low (omega arith))))))
      (λ h.
      by_cases (dec_lt k hi)
      (λ l. absurd (in_goes 0 k low l (h k from (let t = interval_end in omega arith) (named k from low l))))
      (λ l. sym (if-false _ _ (le-ltb k hi (omega arith)))))

  entries_first
      : (b : ℕ)
      → 0 < new_count f op x
      → ((e : ℕ) → lo ≤ e → e < hi → entry_at f e ≡ x)
      → entries_from f op x b 0 ≡ WriteEntry lo
  entries_first b h named =
      entries_at b 0 lo (omega arith) (omega arith) (λ e i l. l) (λ e i. named e) ∙ if-true _ _ (lt-ltb _ _ (interval_lt h))

  entries_next
      : (b j : ℕ)
      → lo ≤ j
      → ((e : ℕ) → j < e → e < hi → entry_at f e ≡ x)
      → entries_from f op x b (suc j) ≡ if (ltb (suc j) hi) (WriteEntry (suc j)) UnlockNew
  entries_next b j l named = entries_at b (suc j) (suc j) (omega arith) (omega arith) (λ e i u. i) (λ e i u. named e i)

-- operation i of a run splits page x
module _ (ops : List Op) (s : State) (i x b n : ℕ) (good : Good ops s) (coherent : Coherent ops s) (settled : Settled ops s) where
  abbrev f : File
  f = s.file

  abbrev op : Op
  op = get_or ops i no_op

  -- the entries of the interval, from j on, name the page
  still_named
      : (j : ℕ)
      → Plan f op x
      → OwnsFrom f op x b j
      → (e : ℕ)
      → j ≤ e
      → goes_from f op x ≤ e
      → e < goes_below f x
      → entry_at f e ≡ x
  still_named j pl h e q l u =
      let t = interval_end f op x good.fit (coherent.pages x) pl in
      let k = entry-call f good.fit e (omega arith) in
      let v = interval_in f op x good.fit (coherent.pages x) pl k.0 (rw k.1 l) (rw k.1 u) in
      rw k.1 at (h.later k.0 v (rw k.1 q))

  -- when the last new page is written, and before, the first entry to be written is the interval's first
  pub split_first : (m : ℕ) → stage_of s i ≡ Split x b n (WriteNew m) → entries_from f op x b 0 ≡ WriteEntry (goes_from f op x)
  split_first m e =
      let fi : Fine f op (Split x b n (WriteNew m)) = rw e at (good.fine i) in
      let w : Work f op (Split x b n (WriteNew m)) = rw e at (coherent.work i) in
      let h : OwnsFrom f op x b 0 = rw e at (settled.owns i) in
      entries_first f op x good.fit (coherent.pages x) w.0 b (omega (arith, fi.0.count))
      (λ e l u. still_named 0 w.0 h e (omega arith) l u)

  -- the entry that is written is of the interval, and names the page; after it the next of the interval is written, or the new pages are unlocked
  pub split_next
      : (j : ℕ)
      → stage_of s i ≡ Split x b n (WriteEntry j)
      → (goes_from f op x ≤ j)
      × (j < goes_below f x)
      × (entry_at f j ≡ x)
      × (entries_from f op x b (suc j) ≡ if (ltb (suc j) (goes_below f x)) (WriteEntry (suc j)) UnlockNew)
  split_next j e =
      let fi : Fine f op (Split x b n (WriteEntry j)) = rw e at (good.fine i) in
      let w : Work f op (Split x b n (WriteEntry j)) = rw e at (coherent.work i) in
      let h : OwnsFrom f op x b j = rw e at (settled.owns i) in
      let r = goes_in f op x good.fit (coherent.pages x) w.0 b j w.1.2 fi.1 in (
        r.0,
        r.1,
        w.1.1,
        entries_next f op x good.fit (coherent.pages x) w.0 b j r.0
            (λ e l u. still_named j w.0 h e (omega arith) (omega (arith, r.0)) u),
      )
