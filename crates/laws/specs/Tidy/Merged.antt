-- All that the laws of tidying ask of the records of two joined pages: how many, whose, what is found among them, and that their calls rise.
-- No other file opens `merged`.
use Rattle.std.specs.Prelude.{ℕ, ◌+◌, ◌≡◌, refl, ◌⊎◌, List, [], ◌∷◌, ◌++◌, length, None}
use Rattle.std.proofs.Common.{sym, ◌∙◌, inl, inr, ⊎_elim, arith}
use Rattle.std.proofs.Math.Logic.{by_cases}
use Rattle.std.proofs.Math.Decide.{ℕ_discrete}
use Rattle.spec.specs.declared.Rec.{Rec}
use Rattle.spec.specs.Basics.{Each}
use Rattle.spec.specs.File.{find_in, put_in}
use Rattle.spec.specs.PlainList.{NoneTwice, more}
use Rattle.spec.specs.Proper.{CallsRise, flat}
use Rattle.spec.specs.Tidy.{merged}
use Rattle.laws.specs.Tools.{first, rest}
use Rattle.laws.specs.Turns.Records.{find_nil, find-hit, find-miss, none_head, none_tail}
use Rattle.laws.specs.Turns.CallsRise.{rise-once, rise_same, put_other, put_own, put_length, put_each, put_rise}

pub merged-length : (xs ys : List Rec) → length (merged xs ys) ≡ length xs + length ys
unfolding merged
merged-length xs [] = omega arith
merged-length xs (a ∷ ys) = omega (arith, merged-length (put_in xs a) ys, put_length xs a)

pub merged_each : {P : Rec → Type 0} (xs ys : List Rec) → Each P xs → Each P ys → Each P (merged xs ys)
unfolding merged
merged_each xs [] h k = h
merged_each xs (a ∷ ys) h k = merged_each (put_in xs a) ys (put_each xs a h (first k)) (rest k)

-- of a call that the other page does not hold
pub merged_left : (xs ys : List Rec) (k : ℕ) → find_in ys k ≡ None → find_in (merged xs ys) k ≡ find_in xs k
unfolding merged
merged_left xs [] k h = refl
merged_left xs (a ∷ ys) k h =
    merged_left (put_in xs a) ys k (none_tail a ys k h) ∙ put_other xs a k (λ e. none_head a ys k h (sym e))

pub merged_right : (xs ys : List Rec) (k : ℕ) → NoneTwice ys → find_in xs k ≡ None → find_in (merged xs ys) k ≡ find_in ys k
unfolding merged
merged_right xs [] k t h = h ∙ sym (find_nil k)
merged_right xs (a ∷ ys) k (more n t) h =
    by_cases (ℕ_discrete k a.call)
    (λ (e : k ≡ a.call).
    rw e (merged_left (put_in xs a) ys a.call n ∙ put_own xs a (rw e at h) ∙ sym (find-hit a ys a.call refl)))
    (λ e. merged_right (put_in xs a) ys k t (put_other xs a k e ∙ h) ∙ sym (find-miss a ys k (λ q. e (sym q))))

-- two pages with no call in common
abbrev pub Apart : List Rec → List Rec → Type 0
Apart xs ys = (k : ℕ) → (find_in xs k ≡ None) ⊎ (find_in ys k ≡ None)

head_apart : (xs : List Rec) (a : Rec) (ys : List Rec) → Apart xs (a ∷ ys) → find_in xs a.call ≡ None
head_apart xs a ys d = ⊎_elim (λ q. q) (λ q. absurd (none_head a ys a.call q refl)) (d a.call)

tail_apart : (xs : List Rec) (a : Rec) (ys : List Rec) → find_in ys a.call ≡ None → Apart xs (a ∷ ys) → Apart (put_in xs a) ys
tail_apart xs a ys n d k =
    by_cases (ℕ_discrete k a.call) (λ (e : k ≡ a.call). inr (rw e n))
    (λ e. ⊎_elim (λ q. inl (put_other xs a k e ∙ q)) (λ q. inr (none_tail a ys k q)) (d k))

pub merged-rise : (xs ys : List Rec) → CallsRise xs → NoneTwice ys → Apart xs ys → CallsRise (merged xs ys)
unfolding merged
merged-rise xs [] h t d = h
merged-rise xs (a ∷ ys) h (more n t) d =
    merged-rise (put_in xs a) ys (put_rise xs a h (head_apart xs a ys d)) t (tail_apart xs a ys n d)

-- records put in one after another, for the code: those of several pages
pub merged-nil : (xs : List Rec) → merged xs [] ≡ xs
unfolding merged
merged-nil xs = refl

pub merged-append : (xs ys zs : List Rec) → merged xs (ys ++ zs) ≡ merged (merged xs ys) zs
unfolding merged
merged-append xs [] zs = refl
merged-append xs (a ∷ ys) zs = merged-append (put_in xs a) ys zs

pub merged_snoc : (xs ys : List Rec) (a : Rec) → merged xs (ys ++ (a ∷ [])) ≡ put_in (merged xs ys) a
unfolding merged
merged_snoc xs [] a = refl
merged_snoc xs (b ∷ ys) a = merged_snoc (put_in xs b) ys a

-- records put in order first: the same is found among them, and the same list comes of putting them in
pub sorted_find : (ys : List Rec) (k : ℕ) → NoneTwice ys → find_in (merged [] ys) k ≡ find_in ys k
sorted_find ys k t = merged_right [] ys k t (find_nil k)

sorted-rise : (ys : List Rec) → NoneTwice ys → CallsRise (merged [] ys)
sorted-rise ys t = merged-rise [] ys flat t (λ k. inl (find_nil k))

sorted_apart : (xs ys : List Rec) → NoneTwice ys → Apart xs (merged [] ys) → Apart xs ys
sorted_apart xs ys t d k = ⊎_elim inl (λ q. inr (sym (sorted_find ys k t) ∙ q)) (d k)

pub sorted_same : (ys : List Rec) → CallsRise ys → merged [] ys ≡ ys
sorted_same ys h = let t = rise-once ys h in rise_same (merged [] ys) ys (sorted-rise ys t) h (λ k. sorted_find ys k t)

pub merged-sorted : (xs ys : List Rec) → CallsRise xs → NoneTwice ys → Apart xs (merged [] ys) → merged xs (merged [] ys) ≡ merged xs ys
merged-sorted xs ys h t d =
    let t' = rise-once (merged [] ys) (sorted-rise ys t) in
    let d' = sorted_apart xs ys t d in
    rise_same (merged xs (merged [] ys)) (merged xs ys) (merged-rise xs (merged [] ys) h t' d) (merged-rise xs ys h t d')
    (λ k.
    ⊎_elim (λ q. merged_right xs (merged [] ys) k t' q ∙ sorted_find ys k t ∙ sym (merged_right xs ys k t q))
    (λ q. merged_left xs (merged [] ys) k q ∙ sym (merged_left xs ys k (sym (sorted_find ys k t) ∙ q))) (d k))
