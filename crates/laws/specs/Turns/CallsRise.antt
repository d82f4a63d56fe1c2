-- Records that stand by rising call number. One more, put in its place: what is found then, what the list has, that calls still rise. What a test
-- lets through rises too, no call is twice in such a list, and looking may stop at the first higher number.
use Rattle.std.proofs.Math.Logic.Iff
use Rattle.std.specs.Prelude.{ℕ, suc, ◌<◌, ◌≤◌, ◌≡◌, refl, ◌↔◌, List, [], ◌∷◌, Bool, length, None, Some}
use Rattle.std.proofs.Common.{sym, ap, ◌∙◌, arith, ltb-true, ltb-false, lt-ltb, le-ltb, eq-eqb, ne_eqb}
use Rattle.std.proofs.Math.Logic.{by_cases}
use Rattle.std.proofs.lemmas.Option.{same_Some}
use Rattle.std.proofs.Math.Decide.{ℕ_discrete, dec_lt}
use Rattle.spec.specs.declared.Rec.{Rec}
use Rattle.spec.specs.Basics.{if, filter, Each, end, next, Has, here, there}
use Rattle.spec.specs.File.{find_in, look_in, put_in}
use Rattle.spec.specs.PlainList.{NoneTwice, empty, more}
use Rattle.spec.specs.Proper.{CallsRise, flat, rise}
use Rattle.laws.specs.Tools.{if_case, if-true, if-false, first, rest, each_imp, filter_each}
use Rattle.laws.specs.Turns.Records.{find_nil, find-hit, find-miss, find_under, none_head, none_tail}

-- ---- one more record, in any list

-- it goes to the front, or behind the first
put_case
    : (P : List Rec → Type 0) (a : Rec) (rs : List Rec) (r : Rec)
    → (r.call < a.call → P (r ∷ a ∷ rs))
    → (a.call ≤ r.call → P (a ∷ put_in rs r))
    → P (put_in (a ∷ rs) r)
unfolding put_in
put_case P a rs r f g = if_case P (λ e. f (ltb-true _ _ e)) (λ e. g (ltb-false _ _ e))

-- what is found: other calls as before, and its own
pub put_other : (rs : List Rec) (r : Rec) (k : ℕ) → (k ≡ r.call → ⊥) → find_in (put_in rs r) k ≡ find_in rs k
unfolding put_in
put_other [] r k n = find-miss r [] k (λ e. n (sym e))
put_other (a ∷ rs) r k n =
    put_case (λ l. find_in l k ≡ find_in (a ∷ rs) k) a rs r (λ l. find-miss r (a ∷ rs) k (λ e. n (sym e)))
    (λ l. find_under a (put_in rs r) rs k (put_other rs r k n))

pub put_own : (rs : List Rec) (r : Rec) → find_in rs r.call ≡ None → find_in (put_in rs r) r.call ≡ Some r
unfolding put_in
put_own [] r h = find-hit r [] r.call refl
put_own (a ∷ rs) r h =
    put_case (λ l. find_in l r.call ≡ Some r) a rs r (λ l. find-hit r (a ∷ rs) r.call refl)
    (λ l. find-miss a (put_in rs r) r.call (none_head a rs r.call h) ∙ put_own rs r (none_tail a rs r.call h))

-- what the list has
pub put_length : (rs : List Rec) (r : Rec) → length (put_in rs r) ≡ suc (length rs)
unfolding put_in
put_length [] r = refl
put_length (a ∷ rs) r = put_case (λ l. length l ≡ suc (suc (length rs))) a rs r (λ l. refl) (λ l. ap suc (put_length rs r))

pub put_each : {P : Rec → Type 0} (rs : List Rec) (r : Rec) → Each P rs → P r → Each P (put_in rs r)
unfolding put_in
put_each [] r h p = next p end
put_each (a ∷ rs) r h p = put_case (Each _) a rs r (λ l. next p h) (λ l. next (first h) (put_each rs r (rest h) p))

-- "a file's calls are what they were": the record, and those that were there
swap : {x a b : Rec} {rs : List Rec} → Has x (a ∷ b ∷ rs) → Has x (b ∷ a ∷ rs)
swap here = there here
swap (there here) = here
swap (there (there h)) = there (there h)

under : {x a : Rec} {xs ys : List Rec} → (Has x xs → Has x ys) → Has x (a ∷ xs) → Has x (a ∷ ys)
under f here = here
under f (there h) = there (f h)

pub put_has : (rs : List Rec) (r x : Rec) → Has x (put_in rs r) ↔ Has x (r ∷ rs)
unfolding put_in
put_has [] r x = Iff.rfl
put_has (a ∷ rs) r x =
    let ih = put_has rs r x in
    put_case (λ l. Has x l ↔ Has x (r ∷ a ∷ rs)) a rs r (λ l. Iff.rfl) (λ l. (λ h. swap (under ih.0 h), λ h. under ih.1 (swap h)))

-- ---- rising calls

lowest : {r : Rec} {rs : List Rec} → CallsRise (r ∷ rs) → Each (λ a. r.call < a.call) rs
lowest (rise l h) = l

risen : {r : Rec} {rs : List Rec} → CallsRise (r ∷ rs) → CallsRise rs
risen (rise l h) = h

-- what is below the first is below all
pub below_all : {k : ℕ} {r : Rec} {rs : List Rec} → CallsRise (r ∷ rs) → k < r.call → Each (λ a. k < a.call) (r ∷ rs)
below_all h l = next l (each_imp (λ a u. omega arith) (lowest h))

-- the first is found
found_none : (r : Rec) (rs : List Rec) → find_in (r ∷ rs) r.call ≡ None → ⊥
found_none r rs e = none_head r rs r.call e refl

-- a call below all of them is not among them
low_none : (rs : List Rec) (k : ℕ) → Each (λ a. k < a.call) rs → find_in rs k ≡ None
low_none [] k h = find_nil k
low_none (a ∷ rs) k h = let l = first h in find-miss a rs k (λ e. omega arith) ∙ low_none rs k (rest h)

-- NO CALL IS TWICE AMONG RISING ONES
pub rise-once : (rs : List Rec) → CallsRise rs → NoneTwice rs
rise-once [] h = empty
rise-once (r ∷ rs) h = more (low_none rs r.call (lowest h)) (rise-once rs (risen h))

-- THERE IS ONE WAY TO STAND IN ORDER: rising lists in which the same is found are the same list
pub rise_same : (xs ys : List Rec) → CallsRise xs → CallsRise ys → ((k : ℕ) → find_in xs k ≡ find_in ys k) → xs ≡ ys
rise_same [] [] h i e = refl
rise_same [] (y ∷ ys) h i e = absurd (found_none y ys (sym (e y.call) ∙ find_nil y.call))
rise_same (x ∷ xs) [] h i e = absurd (found_none x xs (e x.call ∙ find_nil x.call))
rise_same (x ∷ xs) (y ∷ ys) h i e =
    let same = head_same x y xs ys h i e in
    rw (same, rise_same xs ys (risen h) (risen i) (tail_same x y xs ys same h i e))
  where
    head_same
        : (x y : Rec) (xs ys : List Rec)
        → CallsRise (x ∷ xs)
        → CallsRise (y ∷ ys)
        → ((k : ℕ) → find_in (x ∷ xs) k ≡ find_in (y ∷ ys) k)
        → x ≡ y
    head_same x y xs ys h i e =
        by_cases (dec_lt x.call y.call)
        (λ l. absurd (found_none x xs (e x.call ∙ low_none (y ∷ ys) x.call (below_all i l))))
        (λ l.
        by_cases (dec_lt y.call x.call)
        (λ m. absurd (found_none y ys (sym (e y.call) ∙ low_none (x ∷ xs) y.call (below_all h m))))
        (λ m.
        let q : y.call ≡ x.call = omega arith in
        same_Some _ _ (sym (find-hit x xs x.call refl) ∙ e x.call ∙ find-hit y ys x.call q)))

    tail_same
        : (x y : Rec) (xs ys : List Rec)
        → x ≡ y
        → CallsRise (x ∷ xs)
        → CallsRise (y ∷ ys)
        → ((k : ℕ) → find_in (x ∷ xs) k ≡ find_in (y ∷ ys) k)
        → (k : ℕ)
        → find_in xs k ≡ find_in ys k
    tail_same x y xs ys same h i e k =
        by_cases (ℕ_discrete x.call k)
        (λ (z : x.call ≡ k).
        rw (← z) (low_none xs x.call (lowest h) ∙ sym (rw (← same) at (low_none ys y.call (lowest i)))))
        (λ z. sym (find-miss x xs k z) ∙ e k ∙ find-miss y ys k (λ q. z (ap (λ r. r.call) same ∙ q)))

-- INSERT, SPLIT AND DELETE KEEP THE ORDER
pub put_rise : (rs : List Rec) (r : Rec) → CallsRise rs → find_in rs r.call ≡ None → CallsRise (put_in rs r)
unfolding put_in
put_rise [] r h n = rise end flat
put_rise (a ∷ rs) r h n =
    let apart = none_head a rs r.call n in
    put_case CallsRise a rs r (λ l. rise (below_all h l) h)
    (λ l. rise (put_each rs r (lowest h) (omega (arith, apart))) (put_rise rs r (risen h) (none_tail a rs r.call n)))

pub filter-rise : (f : Rec → Bool) (rs : List Rec) → CallsRise rs → CallsRise (filter f rs)
unfolding filter
filter-rise f [] h = flat
filter-rise f (r ∷ rs) h =
    if_case CallsRise (λ e. rise (filter_each f rs (λ a l u. l) (lowest h)) (filter-rise f rs (risen h))) (λ e. filter-rise f rs (risen h))

-- ---- looking that stops at the first higher number: what it meets, for the code

pub look_nil : (k : ℕ) → look_in [] k ≡ None
unfolding look_in
look_nil k = refl

pub look_high : (r : Rec) (rs : List Rec) (k : ℕ) → k < r.call → look_in (r ∷ rs) k ≡ None
unfolding look_in
look_high r rs k l = if-true _ _ (lt-ltb _ _ l)

pub look_hit : (r : Rec) (rs : List Rec) (k : ℕ) → r.call ≡ k → look_in (r ∷ rs) k ≡ Some r
unfolding look_in
look_hit r rs k e = if-false _ _ (le-ltb k r.call (omega arith)) ∙ if-true _ _ (eq-eqb _ _ e)

pub look_low : (r : Rec) (rs : List Rec) (k : ℕ) → r.call < k → look_in (r ∷ rs) k ≡ look_in rs k
unfolding look_in
look_low r rs k l = if-false _ _ (le-ltb k r.call (omega arith)) ∙ if-false _ _ (ne_eqb r.call k (λ e. omega arith))

-- IT FINDS WHAT IS THERE
pub look_find : (rs : List Rec) (k : ℕ) → CallsRise rs → look_in rs k ≡ find_in rs k
unfolding look_in find_in
look_find [] k h = refl
look_find (r ∷ rs) k h =
    if_case (λ o. o ≡ find_in (r ∷ rs) k)
    (λ e. sym (low_none (r ∷ rs) k (below_all h (ltb-true _ _ e))))
    (λ e. ap (if _ (Some r)) (look_find rs k (risen h)))
