-- What a file holds, as a list and as a look-up: what is found in the list is what is looked up, and the list has no call twice.
use Rattle.std.specs.Prelude.{ℕ, zero, suc, ◌+◌, ◌^◌, ◌<◌, ◌≤◌, ◌≡◌, List, None}
use Rattle.std.proofs.Common.{sym, ap, ◌∙◌, inl, inr, arith, eq-eqb, ne_eqb}
use Rattle.std.proofs.Math.Logic.{by_cases}
use Rattle.std.proofs.Math.Decide.{ℕ_discrete}
use Rattle.spec.specs.declared.Rec.{Rec}
use Rattle.spec.specs.Key.{index}
use Rattle.spec.specs.File.{File, page_at, entry_at, find_in, has_index, of_index, held_from, contents}
use Rattle.spec.specs.PlainList.{NoneTwice, empty}
use Rattle.spec.specs.Proper.{Fit, PageOk}
use Rattle.laws.specs.Turns.Prefix.{index_in}
use Rattle.laws.specs.Turns.Records.{find_nil, find_left, find_right, filter_find, filter_lost, filter_twice, join_twice}
use Rattle.laws.specs.Turns.CallsRise.{rise-once}
use Rattle.laws.specs.Turns.Lookup.{lookup}

of-same : (g k : ℕ) (rs : List Rec) → find_in (of_index g (index g k) rs) k ≡ find_in rs k
unfolding of_index has_index
of-same g k rs = filter_find _ rs k (λ r e. eq-eqb _ _ (ap (index g) e))

of_other : (g j k : ℕ) (rs : List Rec) → (index g k ≡ j → ⊥) → find_in (of_index g j rs) k ≡ None
unfolding of_index has_index
of_other g j k rs n = filter_lost _ rs k (λ r e. ne_eqb _ _ (λ z. n (ap (index g) (sym e) ∙ z)))

held_none : (n : ℕ) (f : File) (j k : ℕ) → index f.g k < j → find_in (held_from n f j) k ≡ None
unfolding held_from
held_none zero f j k l = find_nil k
held_none (suc n) f j k l = find_right _ _ k (of_other f.g j k _ (λ e. omega arith)) ∙ held_none n f (suc j) k (omega arith)

held_find : (n : ℕ) (f : File) (j k : ℕ) → j ≤ index f.g k → index f.g k < j + n → find_in (held_from n f j) k ≡ lookup f k
unfolding held_from lookup
held_find zero f j k l u = absurd (omega arith)
held_find (suc n) f j k l u =
    by_cases (ℕ_discrete (index f.g k) j)
    (λ (e : index f.g k ≡ j).
    let z : find_in (of_index f.g j (page_at f (entry_at f j)).records) k ≡ lookup f k = rw (← e) (of-same f.g k _) in
    find_left _ _ k (held_none n f (suc j) k (omega arith)) ∙ z)
    (λ e. find_right _ _ k (of_other f.g j k _ e) ∙ held_find n f (suc j) k (omega arith) (omega arith))

pub contents_lookup : (f : File) → Fit f → (k : ℕ) → find_in (contents f) k ≡ lookup f k
unfolding contents
contents_lookup f fit k = let l = index_in f fit k in held_find _ f 0 k (omega arith) (omega arith)

held_twice : (n : ℕ) (f : File) (j : ℕ) → ((x : ℕ) → PageOk f.g f.c (page_at f x)) → NoneTwice (held_from n f j)
unfolding held_from of_index
held_twice zero f j ok = empty
held_twice (suc n) f j ok =
    join_twice _ _ (filter_twice (has_index f.g j) _ (rise-once _ (ok (entry_at f j)).calls_rise)) (held_twice n f (suc j) ok)
    (λ k.
    by_cases (ℕ_discrete (index f.g k) j) (λ e. inr (held_none n f (suc j) k (omega arith))) (λ e. inl (of_other f.g j k _ e)))

pub contents_twice : (f : File) → ((x : ℕ) → PageOk f.g f.c (page_at f x)) → NoneTwice (contents f)
unfolding contents
contents_twice f ok = held_twice (2 ^ f.g) f 0 ok
