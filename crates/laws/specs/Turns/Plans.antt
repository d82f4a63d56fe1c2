-- The plan of a split stays as long as its page does; and which entry a split writes next: the first, from a given one on, that names the
-- page and goes to a new one. Those passed over that name the page stay with it.
use Rattle.std.specs.Prelude.{ℕ, zero, suc, ◌+◌, ◌-◌, ◌^◌, ◌<◌, ◌≤◌, ◌≡◌, List, true, false, eqb}
use Rattle.std.proofs.Math.Logic.{by_cases}
use Rattle.std.proofs.Common.{arith, eqb-true, eq-eqb, ltb-true, ltb-false}
use Rattle.std.proofs.Math.Decide.{ℕ_discrete}
use Rattle.std.proofs.lemmas.Bool.{eqb-false, not-true, not-false}
use Rattle.spec.specs.declared.Op.{Op}
use Rattle.spec.specs.declared.Part.{Part}
use Rattle.spec.specs.declared.Part.TheVariants.{WriteEntry, UnlockNew}
use Rattle.spec.specs.File.{Page, File, page_at, entry_at}
use Rattle.spec.specs.Split.{new_owner, changes, next_entry}
use Rattle.spec.specs.State.{Move}
use Rattle.spec.specs.Turn.{plan_of, goes_to, entries_from}
use Rattle.spec.specs.Run.{file_after}
use Rattle.laws.specs.Tools.{if_case, and_left, and_right}
use Rattle.laws.specs.Turns.Owners.{new_owner-zero}

-- a move that leaves page x leaves the plan of its split, and where the entries go
module _ (f : File) (m : Move) (op : Op) (x : ℕ) (e : page_at (file_after m f) x ≡ page_at f x) where
  pub plan_same : plan_of (file_after m f) op x ≡ plan_of f op x
  unfolding plan_of
  plan_same = cc

  pub goes_same : (b j : ℕ) → goes_to (file_after m f) op x b j ≡ goes_to f op x b j
  unfolding goes_to
  goes_same b j = cc plan_same

-- whether an entry goes does not hang on the new pages' numbers
pub goes_any : (f : File) (op : Op) (x a b j : ℕ) → goes_to f op x a j ≡ 0 → goes_to f op x b j ≡ 0
unfolding goes_to
goes_any f op x a b j e = new_owner-zero f.g _ a b j e

-- what `changes` tests
changes-true
    : (f : File) (x b : ℕ) (ps : List Page) (j : ℕ)
    → changes f x b ps j ≡ true
    → (entry_at f j ≡ x) × (new_owner f.g ps (suc b) j ≡ 0 → ⊥)
unfolding changes
changes-true f x b ps j e =
    (eqb-true _ _ (and_left (eqb (entry_at f j) x) _ e), eqb-false _ _ (not-true _ (and_right (eqb (entry_at f j) x) _ e)))

changes-false
    : (f : File) (x b : ℕ) (ps : List Page) (j : ℕ)
    → changes f x b ps j ≡ false
    → entry_at f j ≡ x
    → new_owner f.g ps (suc b) j ≡ 0
unfolding changes
changes-false f x b ps j e d = eqb-true _ 0 (not-false _ (rw (eq-eqb (entry_at f j) x d) at e))

record Found (n : ℕ) (f : File) (x b : ℕ) (ps : List Page) (j k : ℕ) : Type 0 where
  from : j ≤ k
  hit : k < j + n → changes f x b ps k ≡ true
  missed : (e : ℕ) → j ≤ e → e < k → changes f x b ps e ≡ false

next-found : (n : ℕ) (f : File) (x b : ℕ) (ps : List Page) (j : ℕ) → Found n f x b ps j (next_entry n f x b ps j)
unfolding next_entry
next-found zero f x b ps j = record { from = omega arith; hit = λ l. absurd (omega arith); missed = λ e l u. absurd (omega arith) }
next-found (suc n) f x b ps j =
    let h = next-found n f x b ps (suc j) in
    if_case (Found (suc n) f x b ps j) (λ t. record { from = omega arith; hit = λ l. t; missed = λ e l u. absurd (omega arith) })
    (λ t.
    record {
      from = omega (arith, h.from);
      hit = λ l. h.hit (omega arith);
      missed = λ e l u. by_cases (ℕ_discrete e j) (λ (q : e ≡ j). rw q t) (λ q. h.missed e (omega arith) u);
    })

-- the entries from j up to k that name x stay with it
abbrev pub Passed : File → Op → ℕ → ℕ → ℕ → Type 0
Passed f op x j k = (e : ℕ) → j ≤ e → e < k → entry_at f e ≡ x → goes_to f op x 0 e ≡ 0

-- k is the next entry to be written, from j on
pub record Next (f : File) (op : Op) (x b j k : ℕ) : Type 0 where
  pub from : j ≤ k
  pub within : k < 2 ^ f.g
  pub names : entry_at f k ≡ x
  pub goes : goes_to f op x b k ≡ 0 → ⊥
  pub passed : Passed f op x j k

-- the part of a split that follows, from entry j on
pub entries_case
    : (P : Part → Type 0) (f : File) (op : Op) (x b j : ℕ)
    → ((k : ℕ) → Next f op x b j k → P (WriteEntry k))
    → (Passed f op x j (2 ^ f.g) → P UnlockNew)
    → P (entries_from f op x b j)
unfolding entries_from goes_to
entries_case P f op x b j w u =
    if_case P
    (λ e.
    let l = ltb-true k (2 ^ f.g) e in
    let c = changes-true f x b news k (h.hit (omega arith)) in
    w k (record { from = h.from; within = l; names = c.0; goes = c.1; passed = past k (λ i q. q) }))
    (λ e. let l = ltb-false k (2 ^ f.g) e in u (past (2 ^ f.g) (λ i q. omega arith)))
  where
    news : List Page
    news = (plan_of f op x).news

    k : ℕ
    k = next_entry (2 ^ f.g - j) f x b news j

    h : Found (2 ^ f.g - j) f x b news j k
    h = next-found (2 ^ f.g - j) f x b news j

    past : (c : ℕ) → ((i : ℕ) → i < c → i < k) → Passed f op x j c
    past c v i q r d = goes_any f op x b 0 i (changes-false f x b news i (h.missed i q (v i r)) d)
