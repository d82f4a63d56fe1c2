-- How many of a file's records lie under a pattern. A page in which calls are found as in the file has just those of its own pattern.
use Rattle.std.specs.Prelude.{ℕ, suc, ◌+◌, ◌*◌, ◌<◌, ◌≡◌, refl, List, [], ◌∷◌, true, false, not, None, Some}
use Rattle.std.proofs.Common.{sym, ◌∙◌, arith, eq-eqb, ne_eqb}
use Rattle.std.proofs.Math.Path.{ap}
use Rattle.std.proofs.Math.Logic.{by_cases}
use Rattle.std.proofs.Math.Decide.{ℕ_discrete}
use Rattle.std.proofs.Math.ListN.{length}
use Rattle.spec.specs.declared.Rec.{Rec}
use Rattle.spec.specs.Basics.{filter, Each, end, next}
use Rattle.spec.specs.Key.{index}
use Rattle.spec.specs.File.{Page, File, find_in, is_not, without, has_index, of_index, contents}
use Rattle.spec.specs.PlainList.{NoneTwice, more}
use Rattle.spec.specs.Proper.{FileOk}
use Rattle.laws.specs.Tools.{if-true, if-false, filter_all}
use Rattle.laws.specs.Turns.Records.{find_nil, find-hit, find-miss, none_head, none_tail, without_own, without_other, filter_find, filter_lost, filter_twice}
use Rattle.laws.specs.Turns.CallsRise.{rise-once}
use Rattle.laws.specs.Turns.Contents.{contents_lookup}
use Rattle.laws.specs.Tidy.Tiles.{low_half, high_half, a_half}
use Rattle.laws.specs.Tidy.Twins.{not-held}
use Rattle.laws.specs.Tidy.Kept.{Right}
use Rattle.laws.specs.Tidy.File.{holds-once}

-- a list without a call that it does not have, and without one that it has
none_each : (rs : List Rec) (k : ℕ) → find_in rs k ≡ None → Each (λ r. is_not k r ≡ true) rs
unfolding is_not
none_each [] k e = end
none_each (r ∷ rs) k e = next (ap not (ne_eqb r.call k (none_head r rs k e))) (none_each rs k (none_tail r rs k e))

without_one : (rs : List Rec) (r : Rec) (k : ℕ) → NoneTwice rs → find_in rs k ≡ Some r → length rs ≡ suc (length (without rs k))
unfolding without filter is_not
without_one [] r k t e = let z : ◌≡◌ {A = ℕ} 0 1 = cc (find_nil k) in absurd (omega arith)
without_one (a ∷ rs) r k (more n t) e =
    by_cases (ℕ_discrete a.call k)
    (λ (z : a.call ≡ k).
    ap (λ (w : List Rec). suc (length w)) (sym (if-false _ _ (is a k z) ∙ filter_all (is_not k) rs (none_each rs k (rw z at n)))))
    (λ z. ap suc (without_one rs r k t (sym (find-miss a rs k z) ∙ e) ∙ sym (ap length (if-true _ _ (is_not_lem a k z)))))
  where
    is : (a : Rec) (k : ℕ) → a.call ≡ k → is_not k a ≡ false
    is a k z = ap not (eq-eqb a.call k z)

    is_not_lem : (a : Rec) (k : ℕ) → (a.call ≡ k → ⊥) → is_not k a ≡ true
    is_not_lem a k z = ap not (ne_eqb a.call k z)

-- two lists with no call twice in which the same is found are equally long
pub same_length : (xs ys : List Rec) → NoneTwice xs → NoneTwice ys → ((k : ℕ) → find_in xs k ≡ find_in ys k) → length xs ≡ length ys
unfolding without
same_length [] [] s t h = refl
same_length [] (r ∷ ys) s t h = let z : ◌≡◌ {A = ℕ} 0 1 = cc (h r.call, find_nil r.call, find-hit r ys r.call refl) in absurd (omega arith)
same_length (a ∷ xs) ys (more n s) t h =
    ap suc (same_length xs (without ys a.call) s (filter_twice (is_not a.call) ys t) finds)
    ∙ sym (without_one ys a a.call t (sym (h a.call) ∙ find-hit a xs a.call refl))
  where
    finds : (k : ℕ) → find_in xs k ≡ find_in (without ys a.call) k
    finds k =
        by_cases (ℕ_discrete a.call k) (λ (z : a.call ≡ k). rw (← z) (n ∙ sym (without_own ys a.call)))
        (λ z. sym (find-miss a xs k z) ∙ h k ∙ sym (without_other ys a.call k (λ q. z (sym q))))

-- the records under a pattern, and under its halves
module _ (l p : ℕ) (r : Rec) (rs : List Rec) where
  of_yes : index l r.call ≡ p → length (of_index l p (r ∷ rs)) ≡ suc (length (of_index l p rs))
  unfolding of_index filter has_index
  of_yes e = ap length (if-true _ _ (eq-eqb (index l r.call) p e))

  of_no : (index l r.call ≡ p → ⊥) → length (of_index l p (r ∷ rs)) ≡ length (of_index l p rs)
  unfolding of_index filter has_index
  of_no e = ap length (if-false _ _ (ne_eqb (index l r.call) p e))

of_nil : (l p : ℕ) → length (of_index l p []) ≡ 0
unfolding of_index filter
of_nil l p = refl

halves_sum
    : (l p : ℕ) (rs : List Rec)
    → l < 32
    → length (of_index l p rs) ≡ length (of_index (suc l) (2 * p) rs) + length (of_index (suc l) (2 * p + 1) rs)
halves_sum l p [] h = omega (arith, of_nil l p, of_nil (suc l) (2 * p), of_nil (suc l) (2 * p + 1))
halves_sum l p (r ∷ rs) h =
    let ih = halves_sum l p rs h in
    by_cases (ℕ_discrete (index l r.call) p)
    (λ e.
    a_half _ l r.call p h e
    (λ q. omega (arith, of_yes l p r rs e, of_yes (suc l) (2 * p) r rs q, of_no (suc l) (2 * p + 1) r rs (λ q'. omega arith)))
    (λ q. omega (arith, of_yes l p r rs e, of_no (suc l) (2 * p) r rs (λ q'. omega arith), of_yes (suc l) (2 * p + 1) r rs q)))
    (λ e.
    omega
    (arith, of_no l p r rs e, of_no (suc l) (2 * p) r rs (λ q. e (low_half l r.call p h q)), of_no (suc l) (2 * p + 1) r rs (λ q. e (high_half l r.call p h q))))

-- "the number of records under a pattern"
unfoldable pub under : File → ℕ → ℕ → ℕ
under f l p = length (of_index l p (contents f))

pub under_halves : (f : File) (l p : ℕ) → l < 32 → under f l p ≡ under f (suc l) (2 * p) + under f (suc l) (2 * p + 1)
unfolding under
under_halves f l p h = halves_sum l p (contents f) h

pub right_count : (f : File) → FileOk f → (q : Page) → Right f q → length q.records ≡ under f q.depth q.pattern
unfolding under of_index has_index
right_count f ok q r =
    same_length q.records (of_index q.depth q.pattern (contents f)) (rise-once q.records r.ok.calls_rise) (filter_twice (has_index q.depth q.pattern) (contents f) (holds-once f ok))
    (λ k.
    by_cases (ℕ_discrete (index q.depth k) q.pattern)
    (λ e.
    r.finds k e ∙ sym (contents_lookup f ok.fit k)
    ∙ sym (filter_find (has_index q.depth q.pattern) (contents f) k (λ a z. eq-eqb _ _ (ap (index q.depth) z ∙ e))))
    (λ e.
    not-held q k r.ok.homed e
    ∙ sym (filter_lost (has_index q.depth q.pattern) (contents f) k (λ a z. ne_eqb _ _ (λ u. e (ap (index q.depth) (sym z) ∙ u))))))
