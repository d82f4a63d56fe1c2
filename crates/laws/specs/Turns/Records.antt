-- Lists of records: what is found in them, in two that are joined and in what a test lets through; lists that have no call twice, and that
-- what is found in such a list is what is in it.
use Rattle.std.specs.Prelude.{ℕ, ◌≡◌, refl, ◌⊎◌, List, [], ◌∷◌, ◌++◌, Bool, true, false, not, None, Some}
use Rattle.std.proofs.Common.{sym, ap, ◌∙◌, inl, inr, ⊎_elim, true≢false, arith, eq-eqb, ne_eqb}
use Rattle.std.proofs.Math.Logic.{by_cases}
use Rattle.std.proofs.Math.Decide.{ℕ_discrete}
use Rattle.spec.specs.declared.Rec.{Rec}
use Rattle.spec.specs.Basics.{if, filter, Each, Has, here, there}
use Rattle.spec.specs.File.{Page, find_in, is_not, without}
use Rattle.spec.specs.PlainList.{NoneTwice, empty, more}
use Rattle.spec.specs.Proper.{In}
use Rattle.laws.specs.Tools.{if_case, if-true, if-false, first, rest}

pub find_nil : (k : ℕ) → find_in [] k ≡ None
unfolding find_in
find_nil k = refl

pub find-hit : (r : Rec) (rs : List Rec) (k : ℕ) → r.call ≡ k → find_in (r ∷ rs) k ≡ Some r
unfolding find_in
find-hit r rs k e = if-true _ _ (eq-eqb _ _ e)

pub find-miss : (r : Rec) (rs : List Rec) (k : ℕ) → (r.call ≡ k → ⊥) → find_in (r ∷ rs) k ≡ find_in rs k
unfolding find_in
find-miss r rs k n = if-false _ _ (ne_eqb _ _ n)

pub find_under : (r : Rec) (xs ys : List Rec) (k : ℕ) → find_in xs k ≡ find_in ys k → find_in (r ∷ xs) k ≡ find_in (r ∷ ys) k
unfolding find_in
find_under r xs ys k e = ap (if _ (Some r)) e

pub none_head : (r : Rec) (rs : List Rec) (k : ℕ) → find_in (r ∷ rs) k ≡ None → r.call ≡ k → ⊥
none_head r rs k h e = let z : ◌≡◌ {A = ℕ} 0 1 = cc (find-hit r rs k e) in omega arith

pub none_tail : (r : Rec) (rs : List Rec) (k : ℕ) → find_in (r ∷ rs) k ≡ None → find_in rs k ≡ None
none_tail r rs k h = sym (find-miss r rs k (none_head r rs k h)) ∙ h

-- in two lists, one behind the other
pub find_left : (xs ys : List Rec) (k : ℕ) → find_in ys k ≡ None → find_in (xs ++ ys) k ≡ find_in xs k
find_left [] ys k h = h ∙ sym (find_nil k)
find_left (a ∷ xs) ys k h =
    by_cases (ℕ_discrete a.call k) (λ e. find-hit a _ k e ∙ sym (find-hit a xs k e))
    (λ e. find-miss a _ k e ∙ find_left xs ys k h ∙ sym (find-miss a xs k e))

pub find_right : (xs ys : List Rec) (k : ℕ) → find_in xs k ≡ None → find_in (xs ++ ys) k ≡ find_in ys k
find_right [] ys k h = refl
find_right (a ∷ xs) ys k h = find-miss a _ k (none_head a xs k h) ∙ find_right xs ys k (none_tail a xs k h)

-- one more record, at the end
pub added_other : (rs : List Rec) (r : Rec) (k : ℕ) → (k ≡ r.call → ⊥) → find_in (rs ++ (r ∷ [])) k ≡ find_in rs k
added_other rs r k n = find_left rs _ k (find-miss r [] k (λ e. n (sym e)) ∙ find_nil k)

pub added_own : (rs : List Rec) (r : Rec) → find_in rs r.call ≡ None → find_in (rs ++ (r ∷ [])) r.call ≡ Some r
added_own rs r h = find_right rs _ r.call h ∙ find-hit r [] r.call refl

-- what a test lets through: all records of the call, or none
pub filter_find : (f : Rec → Bool) (rs : List Rec) (k : ℕ) → ((r : Rec) → r.call ≡ k → f r ≡ true) → find_in (filter f rs) k ≡ find_in rs k
unfolding filter
filter_find f [] k w = refl
filter_find f (r ∷ rs) k w =
    by_cases (ℕ_discrete r.call k) (λ e. ap (λ l. find_in l k) (if-true _ _ (w r e)) ∙ find-hit r _ k e ∙ sym (find-hit r rs k e))
    (λ e.
    if_case (λ l. find_in l k ≡ find_in (r ∷ rs) k) (λ u. find-miss r _ k e ∙ filter_find f rs k w ∙ sym (find-miss r rs k e))
    (λ u. filter_find f rs k w ∙ sym (find-miss r rs k e)))

pub filter_lost : (f : Rec → Bool) (rs : List Rec) (k : ℕ) → ((r : Rec) → r.call ≡ k → f r ≡ false) → find_in (filter f rs) k ≡ None
unfolding filter
filter_lost f [] k w = find_nil k
filter_lost f (r ∷ rs) k w =
    if_case (λ l. find_in l k ≡ None) (λ u. find-miss r _ k (λ e. true≢false (sym u ∙ w r e)) ∙ filter_lost f rs k w)
    (λ u. filter_lost f rs k w)

pub without_own : (rs : List Rec) (k : ℕ) → find_in (without rs k) k ≡ None
unfolding without is_not
without_own rs k = filter_lost _ rs k (λ r e. ap not (eq-eqb r.call k e))

pub without_other : (rs : List Rec) (k j : ℕ) → (j ≡ k → ⊥) → find_in (without rs k) j ≡ find_in rs j
unfolding without is_not
without_other rs k j n = filter_find _ rs j (λ r e. ap not (ne_eqb r.call k (λ q. n (sym e ∙ q))))

-- no call twice
filter_none : (f : Rec → Bool) (rs : List Rec) (k : ℕ) → find_in rs k ≡ None → find_in (filter f rs) k ≡ None
unfolding filter
filter_none f [] k h = h
filter_none f (r ∷ rs) k h =
    let ih = filter_none f rs k (none_tail r rs k h) in
    if_case (λ l. find_in l k ≡ None) (λ e. find-miss r _ k (none_head r rs k h) ∙ ih) (λ e. ih)

pub filter_twice : (f : Rec → Bool) (rs : List Rec) → NoneTwice rs → NoneTwice (filter f rs)
unfolding filter
filter_twice f [] h = empty
filter_twice f (r ∷ rs) (more e h) =
    if_case NoneTwice (λ u. more (filter_none f rs r.call e) (filter_twice f rs h)) (λ u. filter_twice f rs h)

-- two lists with no call in common
pub join_twice
    : (xs ys : List Rec)
    → NoneTwice xs
    → NoneTwice ys
    → ((k : ℕ) → (find_in xs k ≡ None) ⊎ (find_in ys k ≡ None))
    → NoneTwice (xs ++ ys)
join_twice [] ys h g d = g
join_twice (a ∷ xs) ys (more e h) g d =
    more (find_right xs ys a.call e ∙ ⊎_elim (λ q. absurd (none_head a xs a.call q refl)) (λ q. q) (d a.call))
    (join_twice xs ys h g (λ k. ⊎_elim (λ q. inl (none_tail a xs k q)) inr (d k)))

pub added_twice : (rs : List Rec) (r : Rec) → NoneTwice rs → find_in rs r.call ≡ None → NoneTwice (rs ++ (r ∷ []))
added_twice rs r h n =
    join_twice rs _ h (more (find_nil r.call) empty)
    (λ k.
    by_cases (ℕ_discrete r.call k) (λ e. inl (rw (← e) n)) (λ e. inr (find-miss r [] k e ∙ find_nil k)))

-- what is found is in the list; where no call is twice, what is in the list is found
pub find_has : (rs : List Rec) (k : ℕ) (r : Rec) → find_in rs k ≡ Some r → Has r rs × (r.call ≡ k)
find_has [] k r h = let z : ◌≡◌ {A = ℕ} 0 1 = cc (find_nil k) in absurd (omega arith)
find_has (a ∷ rs) k r h =
    by_cases (ℕ_discrete a.call k) (λ (e : a.call ≡ k). let z : a ≡ r = cc (find-hit a rs k e) in (rw z here, rw (← z) e))
    (λ e. let ih = find_has rs k r (sym (find-miss a rs k e) ∙ h) in (there ih.0, ih.1))

has_some : {r : Rec} {rs : List Rec} → Has r rs → find_in rs r.call ≡ None → ⊥
has_some {r} (here {xs}) n = none_head r xs r.call n refl
has_some {r} (there {y} {xs} h) n = has_some h (none_tail y xs r.call n)

has_find : {r : Rec} {rs : List Rec} → NoneTwice rs → Has r rs → find_in rs r.call ≡ Some r
has_find {r} t (here {xs}) = find-hit r xs r.call refl
has_find {r} (more e t) (there {y} {xs} h) = find-miss y xs r.call (λ q. has_some h (rw (← q) e)) ∙ has_find t h

-- two such lists in which the same is found have the same members
pub same_has : (xs ys : List Rec) → NoneTwice xs → ((k : ℕ) → find_in xs k ≡ find_in ys k) → (r : Rec) → Has r xs → Has r ys
same_has xs ys t e r h = (find_has ys r.call r (sym (e r.call) ∙ has_find t h)).0

-- what holds of every record holds of one that is found
has_each : {P : Rec → Type 0} {r : Rec} {rs : List Rec} → Has r rs → Each P rs → P r
has_each here h = first h
has_each (there g) h = has_each g (rest h)

pub find_each : {P : Rec → Type 0} (rs : List Rec) (k : ℕ) (r : Rec) → Each P rs → find_in rs k ≡ Some r → P r
find_each rs k r h e = has_each (find_has rs k r e).0 h

pub found_in : (q : Page) (k : ℕ) (r : Rec) → Each (λ a. In q a.call) q.records → find_in q.records k ≡ Some r → In q k
found_in q k r h e = rw (find_has q.records k r e).1 at (find_each q.records k r h e)
