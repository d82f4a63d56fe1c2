-- Depths and patterns of the pages that a split leaves. Every one is as deep as the page or deeper, the new ones are deeper; the old page
-- keeps the lowest part of the page's range, since the split page keeps bit 0; and there are no more new pages than the depth has left.
use Rattle.std.specs.Prelude.{ℕ, zero, suc, ◌+◌, ◌*◌, ◌^◌, ◌<◌, ◌≤◌, ◌≡◌, refl, ◌∷◌, Bool, true, false, not, length}
use Rattle.std.proofs.Common.{◌∙◌, arith, le_refl, pow-suc}
use Rattle.spec.specs.declared.Rec.{Rec}
use Rattle.spec.specs.declared.Op.{Op}
use Rattle.spec.specs.Basics.{if, Each, end, next}
use Rattle.spec.specs.Key.{bit}
use Rattle.spec.specs.File.{Page, File, page_at}
use Rattle.spec.specs.Split.{digit, half, added, Grown, joined, grow}
use Rattle.spec.specs.Turn.{rec_of, plan_of, new_count}
use Rattle.spec.specs.Proper.{Fit, PageOk}
use Rattle.laws.specs.Tools.{if_case, first, rest, each_imp}
use Rattle.laws.specs.Turns.Grow.{joined_each}
use Rattle.laws.specs.Turns.Work.{Plan}
use Rattle.laws.specs.Turns.SplitPlan.{made}

-- the pages of an insert into page p are as deep as p, or deeper
pub grow-deep : (c n : ℕ) (p : Page) (r : Rec) → Each (λ q. p.depth ≤ q.depth) ((grow c n p r).old ∷ (grow c n p r).news)
unfolding grow half added
grow-deep c zero p r = next (le_refl p.depth) end
grow-deep c (suc n) p r =
    let v = bit p.depth r.call in
    let l : p.depth ≤ suc p.depth = omega arith in
    if_case (λ (t : Grown). Each (λ q. p.depth ≤ q.depth) (t.old ∷ t.news)) (λ e. next (le_refl p.depth) end)
    (λ e. joined_each v _ _ l (each_imp (λ q h. omega arith) (grow-deep c n (half v p) r)))

-- where the page is split, all are deeper
grow_deeper
    : (c n : ℕ) (p : Page) (r : Rec)
    → 0 < length (grow c n p r).news
    → Each (λ q. p.depth < q.depth) ((grow c n p r).old ∷ (grow c n p r).news)
unfolding grow half
grow_deeper c zero p r = λ h. absurd (omega arith)
grow_deeper c (suc n) p r =
    let v = bit p.depth r.call in
    if_case (λ (t : Grown). 0 < length t.news → Each (λ q. p.depth < q.depth) (t.old ∷ t.news)) (λ e h. absurd (omega arith))
    (λ e h. joined_each v _ _ (le_refl (suc p.depth)) (grow-deep c n (half v p) r))

-- how many of n splits for the call, of a page of depth d, change the old page: up to the first one that goes by a bit 1 of the call
unfoldable pub old_splits : ℕ → ℕ → ℕ → ℕ
old_splits call zero d = 0
old_splits call (suc n) d = suc (if (bit d call) 0 (old_splits call n (suc d)))

-- page q has the lowest part of the range of page p: its pattern is p's, and m zeros behind
abbrev pub Lowest : ℕ → Page → Page → Type 0
Lowest m p q = (q.depth ≡ p.depth + m) × (q.pattern ≡ p.pattern * 2 ^ m)

lowest_half : (m : ℕ) (p q : Page) → Lowest m (half false p) q → Lowest (suc m) p q
unfolding half digit
lowest_half m p q h = (omega (arith, h.0), h.1 ∙ (rw pow-suc (omega arith)))

joined_low
    : (v : Bool) (p : Page) (t : Grown) (call : ℕ)
    → bit p.depth call ≡ v
    → Lowest (old_splits call (length t.news) (suc p.depth)) (half v p) t.old
    → Lowest (old_splits call (length (joined v (half (not v) p) t).news) p.depth) p (joined v (half (not v) p) t).old
unfolding joined old_splits if
joined_low true p t call e h = rw (e, if) (lowest_half 0 p (half false p) (omega arith))
joined_low false p t call e h = rw (e, if) (lowest_half _ p t.old h)

grow_low : (c n : ℕ) (p : Page) (r : Rec) → Lowest (old_splits r.call (length (grow c n p r).news) p.depth) p (grow c n p r).old
unfolding grow half added old_splits
grow_low c zero p r = omega arith
grow_low c (suc n) p r =
    let v = bit p.depth r.call in
    if_case (λ (t : Grown). Lowest (old_splits r.call (length t.news) p.depth) p t.old) (λ e. omega arith)
    (λ e. joined_low v p _ r.call refl (grow_low c n (half v p) r))

-- the pages of the half that the call is in are among them, and it is split once less
pub joined_own
    : {P : Page → Type 0} (v : Bool) (q : Page) (t : Grown)
    → Each P ((joined v q t).old ∷ (joined v q t).news)
    → Each P (t.old ∷ t.news) × (length (joined v q t).news ≡ suc (length t.news))
unfolding joined
joined_own true q t h = (rest h, refl)
joined_own false q t h = (next (first h) (rest (rest h)), refl)

-- so there are no more new pages than the depth has left
grow-most
    : (g c n : ℕ) (p : Page) (r : Rec)
    → Each (λ q. q.depth ≤ g) ((grow c n p r).old ∷ (grow c n p r).news)
    → p.depth + length (grow c n p r).news ≤ g
unfolding grow half added
grow-most g c zero p r = λ h. omega (arith, first h)
grow-most g c (suc n) p r =
    let v = bit p.depth r.call in
    if_case (λ (t : Grown). Each (λ q. q.depth ≤ g) (t.old ∷ t.news) → p.depth + length t.news ≤ g) (λ e h. omega (arith, first h))
    (λ e h. let w = joined_own v _ _ h in let ih = grow-most g c n (half v p) r w.0 in omega (arith, w.1))

module _ (f : File) (op : Op) (x : ℕ) where
  -- the old page of a split has the lowest part of the page's range
  pub plan_low : Lowest (old_splits op.call (new_count f op x) (page_at f x).depth) (page_at f x) (plan_of f op x).old
  unfolding plan_of new_count
  plan_low = grow_low f.c (suc f.g) (page_at f x) (rec_of op)

  pub plan_deeper : 0 < new_count f op x → Each (λ q. (page_at f x).depth < q.depth) ((plan_of f op x).old ∷ (plan_of f op x).news)
  unfolding plan_of new_count
  plan_deeper h = grow_deeper f.c (suc f.g) (page_at f x) (rec_of op) h

  -- and the depth, with one more for each new page, is at most the directory's
  pub plan_most : Fit f → PageOk f.g f.c (page_at f x) → Plan f op x → (page_at f x).depth + new_count f op x ≤ f.g
  unfolding plan_of new_count
  plan_most fit ok pl = grow-most f.g f.c (suc f.g) (page_at f x) (rec_of op) (each_imp (λ q m. m.ok.deep) (made f op x fit ok pl))
