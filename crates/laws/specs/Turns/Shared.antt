-- How many leading bits pseudo keys share. What a call shares with each of some records is the least that it shares with one of them, so
-- "all c records share their first g bits with the call" is: that least number is g or more.
use Rattle.std.specs.Prelude.{ℕ, zero, suc, ◌-◌, ◌^◌, ◌<◌, ◌≤◌, ◌/◌, ◌%◌, ◌≡◌, refl, List, [], ◌∷◌, false, eqb, leb}
use Rattle.std.proofs.Common.{sym, ap, ◌∙◌, arith, eqb-true, eq-eqb, leb-false, leb-true, le-leb}
use Rattle.std.proofs.Math.Logic.{by_cases}
use Rattle.std.proofs.Math.Decide.{dec_le}
use Rattle.std.proofs.lemmas.Bool.{eqb-false}
use Rattle.spec.specs.declared.Rec.{Rec}
use Rattle.spec.specs.Basics.{Each, end, next}
use Rattle.spec.specs.Key.{pseudo_key, index, bit, shared}
use Rattle.spec.specs.Split.{shares_index, all_share, least_shared}
use Rattle.laws.specs.Tools.{if_case, bool_same, first, rest, each_imp, all_of_true, true_all_of}
use Rattle.laws.specs.Key.{index-lt}
use Rattle.laws.specs.Turns.Prefix.{index_prefix, to_half}

-- every record shares its first d bits with the call
abbrev pub Shares : ℕ → List Rec → ℕ → Type 0
Shares d rs k = Each (λ r. index d r.call ≡ index d k) rs

share_less : (d e a b : ℕ) → d ≤ e → e ≤ 32 → index e a ≡ index e b → index d a ≡ index d b
share_less d e a b h w s = sym (index_prefix d e a h w) ∙ ap (λ i. i / 2 ^ (e - d)) s ∙ index_prefix d e b h w

pub shared_top : (n a b : ℕ) → shared n a b ≤ n
unfolding shared
shared_top zero a b = omega arith
shared_top (suc n) a b = if_case (λ d. d ≤ suc n) (λ e. omega arith) (λ e. let h = shared_top n a b in omega arith)

-- of two calls
abbrev shared_by : ℕ → ℕ → ℕ → ℕ
shared_by n a b = shared n (pseudo_key a) (pseudo_key b)

shared_eq : (n a b : ℕ) → index (shared_by n a b) a ≡ index (shared_by n a b) b
unfolding shared index
shared_eq zero a b = let x = index-lt 0 a (omega arith) in let y = index-lt 0 b (omega arith) in omega arith
shared_eq (suc n) a b = if_case (λ d. index d a ≡ index d b) (λ e. eqb-true _ _ e) (λ e. shared_eq n a b)

shared-most : (n a b d : ℕ) → d ≤ n → index d a ≡ index d b → d ≤ shared_by n a b
unfolding shared index
shared-most zero a b d h s = h
shared-most (suc n) a b d h s =
    if_case (λ m. d ≤ m) (λ e. h)
    (λ e.
    by_cases (dec_le d n) (λ k. shared-most n a b d k s) (λ k. let z : d ≡ suc n = omega arith in absurd (eqb-false _ _ e (rw z at s))))

pub least-most : (rs : List Rec) (k d : ℕ) → d ≤ 32 → Shares d rs k → d ≤ least_shared rs k
unfolding least_shared
least-most [] k d h s = h
least-most (r ∷ rs) k d h s =
    let a = shared-most 32 r.call k d h (first s) in
    let b = least-most rs k d h (rest s) in
    omega arith

pub least_all : (rs : List Rec) (k d : ℕ) → d ≤ least_shared rs k → Shares d rs k
unfolding least_shared
least_all [] k d h = end
least_all (r ∷ rs) k d h =
    next (share_less d _ r.call k (omega arith) (shared_top 32 (pseudo_key r.call) (pseudo_key k)) (shared_eq 32 r.call k)) (least_all rs k d (omega arith))

-- "all c records share their first g bits with the call", by the number that settles n
pub all_share-least : (g : ℕ) (rs : List Rec) (k : ℕ) → g ≤ 32 → all_share g rs k ≡ leb g (least_shared rs k)
unfolding all_share shares_index
all_share-least g rs k h =
    bool_same _ _ (λ e. le-leb g _ (least-most rs k g h (each_imp (λ r u. eqb-true _ _ u) (all_of_true (shares_index g k) rs e))))
    (λ e. true_all_of (shares_index g k) rs (each_imp (λ r u. eq-eqb _ _ u) (least_all rs k g (leb-true g _ e))))

pub not-all_share : (g : ℕ) (rs : List Rec) (k : ℕ) → g ≤ 32 → all_share g rs k ≡ false → least_shared rs k < g
not-all_share g rs k h e = leb-false g _ (sym (all_share-least g rs k h) ∙ e)

-- records that share l bits with the call share one more exactly if their next bits are the call's
pub next_bit : (l : ℕ) (rs : List Rec) (k : ℕ) → Shares (suc l) rs k → Each (λ r. bit l r.call ≡ bit l k) rs
unfolding bit
next_bit l rs k t = each_imp (λ r e. ap (λ i. eqb (i % 2) 1) e) t

pub bit-next : (l : ℕ) (rs : List Rec) (k : ℕ) → l < 32 → Shares l rs k → Each (λ r. bit l r.call ≡ bit l k) rs → Shares (suc l) rs k
bit-next l [] k h s t = end
bit-next l (r ∷ rs) k h s t =
    next (to_half l r.call _ h (first s) ∙ rw (first t) (sym (to_half l k _ h refl))) (bit-next l rs k h (rest s) (rest t))
