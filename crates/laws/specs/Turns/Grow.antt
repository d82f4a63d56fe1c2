-- What a split does to what the pages hold. Each page that it leaves holds of its own calls what the page held, but for the insert's; every
-- call of the page is of exactly one of the pages that it leaves.
use Rattle.std.specs.Prelude.{ℕ, zero, suc, ◌+◌, ◌<◌, ◌≤◌, ◌*◌, ◌≡◌, refl, List, ◌∷◌, Bool, true, false, not}
use Rattle.std.proofs.Common.{sym, ap, ◌∙◌, true≢false, arith}
use Rattle.spec.specs.declared.Rec.{Rec}
use Rattle.spec.specs.Basics.{Each, end, next}
use Rattle.spec.specs.Key.{index, bit}
use Rattle.spec.specs.File.{Page, find_in}
use Rattle.spec.specs.Split.{has_bit, with_bit, digit, half, added, Grown, joined, grow}
use Rattle.spec.specs.Proper.{In}
use Rattle.laws.specs.Tools.{if_case, beq_refl, first, rest, each_imp}
use Rattle.laws.specs.Turns.Prefix.{of_half, to_half}
use Rattle.laws.specs.Turns.Records.{filter_find}
use Rattle.laws.specs.Turns.CallsRise.{put_other}
use Rattle.laws.specs.Turns.Owners.{Lone, alone, one}

pub with_bit_find : (v : Bool) (l : ℕ) (rs : List Rec) (k : ℕ) → bit l k ≡ v → find_in (with_bit v l rs) k ≡ find_in rs k
unfolding with_bit has_bit
with_bit_find v l rs k e = filter_find _ rs k (λ r z. rw (ap (bit l) z ∙ e) (beq_refl v))

-- page q, made of page p for an insert of r, holds of its own calls what p held, but for r's
pub record Serves (p : Page) (r : Rec) (q : Page) : Type 0 where
  pub inside : (k : ℕ) → In q k → In p k
  pub kept : (k : ℕ) → In q k → (k ≡ r.call → ⊥) → find_in q.records k ≡ find_in p.records k

serves_trans : (p : Page) (r : Rec) (q w : Page) → Serves p r q → Serves q r w → Serves p r w
serves_trans p r q w a b =
    record {
      inside = λ k h. a.inside k (b.inside k h);
      kept = λ k h n. b.kept k h n ∙ a.kept k (b.inside k h) n;
    }

half_serves : (v : Bool) (p : Page) (r : Rec) → p.depth < 32 → Serves p r (half v p)
unfolding half
half_serves v p r l =
    record {
      inside = λ k h. (of_half v p.depth k p.pattern l h).1;
      kept = λ k h n. with_bit_find v p.depth p.records k (of_half v p.depth k p.pattern l h).0;
    }

added_serves : (p : Page) (r : Rec) → Serves p r (added p r)
unfolding added
added_serves p r = record { inside = λ k h. h; kept = λ k h n. put_other p.records r k n }

same_serves : (p : Page) (r : Rec) → Serves p r p
same_serves p r = record { inside = λ k h. h; kept = λ k h n. refl }

pub joined_each
    : {P : Page → Type 0} (v : Bool) (q : Page) (t : Grown)
    → P q
    → Each P (t.old ∷ t.news)
    → Each P ((joined v q t).old ∷ (joined v q t).news)
unfolding joined
joined_each true q t h w = next h w
joined_each false q t h w = next (first w) (next h (rest w))

pub grow_serves
    : (c n : ℕ) (p : Page) (r : Rec)
    → p.depth + n ≤ 32
    → Each (Serves p r) ((grow c n p r).old ∷ (grow c n p r).news)
unfolding grow half
grow_serves c zero p r h = next (same_serves p r) end
grow_serves c (suc n) p r h =
    let l : p.depth < 32 = omega arith in
    let v = bit p.depth r.call in
    if_case (λ (t : Grown). Each (Serves p r) (t.old ∷ t.news)) (λ e. next (added_serves p r) end)
    (λ e.
    joined_each v _ _ (half_serves (not v) p r l)
    (each_imp (λ q. serves_trans p r (half v p) q (half_serves v p r l)) (grow_serves c n (half v p) r (omega arith))))

-- a call of the page that goes to none of the new pages stays in the old
joined_covers
    : (v : Bool) (p : Page) (t : Grown) (k : ℕ)
    → p.depth < 32
    → In p k
    → (In (half v p) k → Each (λ q. In q k → ⊥) t.news → In t.old k)
    → Each (λ q. In q k → ⊥) (joined v (half (not v) p) t).news
    → In (joined v (half (not v) p) t).old k
unfolding joined half
joined_covers v p t k l i = two v (bit p.depth k) (to_half p.depth k p.pattern l i)
  where
    two
        : (v u : Bool)
        → index (suc p.depth) k ≡ 2 * p.pattern + digit u
        → (In (half v p) k → Each (λ q. In q k → ⊥) t.news → In t.old k)
        → Each (λ q. In q k → ⊥) (joined v (half (not v) p) t).news
        → In (joined v (half (not v) p) t).old k
    two true true h f w = absurd (first w (f h (rest w)))
    two true false h f w = h
    two false true h f w = absurd (first w h)
    two false false h f w = f h (rest w)

pub grow_covers
    : (c n : ℕ) (p : Page) (r : Rec) (k : ℕ)
    → p.depth + n ≤ 32
    → In p k
    → Each (λ q. In q k → ⊥) (grow c n p r).news
    → In (grow c n p r).old k
unfolding grow half added
grow_covers c zero p r k h i = λ w. i
grow_covers c (suc n) p r k h i =
    if_case (λ (t : Grown). Each (λ q. In q k → ⊥) t.news → In t.old k) (λ e w. i)
    (λ e. joined_covers _ p _ k (omega arith) i (grow_covers c n (half (bit p.depth r.call) p) r k (omega arith)))

-- no call is both of a new page and of the old one
half-apart : (v u : Bool) (p : Page) (k : ℕ) → p.depth < 32 → (v ≡ u → ⊥) → In (half v p) k → In (half u p) k → ⊥
unfolding half
half-apart v u p k l n a b = n (sym (of_half v p.depth k p.pattern l a).0 ∙ (of_half u p.depth k p.pattern l b).0)

joined-apart
    : (v : Bool) (p : Page) (t : Grown) (k : ℕ)
    → p.depth < 32
    → Each (λ q. In q k → In (half v p) k) (t.old ∷ t.news)
    → Each (λ q. In q k → In t.old k → ⊥) t.news
    → Each (λ q. In q k → In (joined v (half (not v) p) t).old k → ⊥) (joined v (half (not v) p) t).news
unfolding joined
joined-apart true p t k l w h = each_imp (λ q f a b. half-apart true false p k l true≢false (f a) b) w
joined-apart false p t k l w h = next (λ a b. half-apart true false p k l true≢false a (first w b)) h

pub grow-apart
    : (c n : ℕ) (p : Page) (r : Rec) (k : ℕ)
    → p.depth + n ≤ 32
    → Each (λ q. In q k → In (grow c n p r).old k → ⊥) (grow c n p r).news
unfolding grow half
grow-apart c zero p r k h = end
grow-apart c (suc n) p r k h =
    if_case (λ (t : Grown). Each (λ q. In q k → In t.old k → ⊥) t.news) (λ e. end)
    (λ e.
    let v = bit p.depth r.call in
    joined-apart v p _ k (omega arith) (each_imp (λ q z. z.inside k) (grow_serves c n (half v p) r (omega arith)))
    (grow-apart c n (half v p) r k (omega arith)))

-- nor of two of the new pages
joined_lone
    : (v : Bool) (p : Page) (t : Grown) (k : ℕ)
    → p.depth < 32
    → Each (λ q. In q k → In (half v p) k) (t.old ∷ t.news)
    → Each (λ q. In q k → In t.old k → ⊥) t.news
    → Lone k t.news
    → Lone k (joined v (half (not v) p) t).news
unfolding joined
joined_lone true p t k l w a h = one (λ i. each_imp (λ q f z. f z i) a) h
joined_lone false p t k l w a h = one (λ i. each_imp (λ q f z. half-apart true false p k l true≢false i (f z)) (rest w)) h

pub grow_lone : (c n : ℕ) (p : Page) (r : Rec) (k : ℕ) → p.depth + n ≤ 32 → Lone k (grow c n p r).news
unfolding grow half
grow_lone c zero p r k h = alone
grow_lone c (suc n) p r k h =
    if_case (λ (t : Grown). Lone k t.news) (λ e. alone)
    (λ e.
    let v = bit p.depth r.call in
    joined_lone v p _ k (omega arith) (each_imp (λ q z. z.inside k) (grow_serves c n (half v p) r (omega arith)))
    (grow-apart c n (half v p) r k (omega arith))
    (grow_lone c n (half v p) r k (omega arith)))
