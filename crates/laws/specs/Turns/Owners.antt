-- The new page that an entry goes to: none, whatever the new pages' numbers; or one of them, the one whose pattern begins the entry.
use Rattle.std.specs.Prelude.{ℕ, zero, suc, ◌+◌, ◌<◌, ◌≤◌, ◌≡◌, refl, List, [], ◌∷◌, true, length, get_or}
use Rattle.std.proofs.Common.{sym, ◌∙◌, true≢false, arith}
use Rattle.spec.specs.Basics.{Each, end, next}
use Rattle.spec.specs.Key.{index, begins}
use Rattle.spec.specs.File.{Page}
use Rattle.spec.specs.Split.{new_owner}
use Rattle.spec.specs.Proper.{In}
use Rattle.laws.specs.Tools.{if_case, if-true, if_both, first, rest, each_at}
use Rattle.laws.specs.Turns.Prefix.{begins_in, in_begins}

-- whether an entry goes to a new page does not hang on the new pages' numbers
pub new_owner-zero : (g : ℕ) (ps : List Page) (a b j : ℕ) → new_owner g ps (suc a) j ≡ 0 → new_owner g ps (suc b) j ≡ 0
unfolding new_owner
new_owner-zero g [] a b j = λ e. refl
new_owner-zero g (p ∷ ps) a b j =
    if_both (λ x y. x ≡ 0 → y ≡ 0) (λ q e. absurd (omega arith)) (λ q. new_owner-zero g ps (suc a) (suc b) j)

-- y is the number of the new page that entry j goes to: its pattern begins j
abbrev pub OwnerAt : ℕ → List Page → ℕ → ℕ → Page → ℕ → Type 0
OwnerAt g ps b j d y = (m : ℕ) × (m < length ps) × (y ≡ b + m) × (begins g (get_or ps m d).depth (get_or ps m d).pattern j ≡ true)

pub new_owner_at : (g : ℕ) (ps : List Page) (b j : ℕ) (d : Page) → (new_owner g ps b j ≡ 0 → ⊥) → OwnerAt g ps b j d (new_owner g ps b j)
unfolding new_owner
new_owner_at g [] b j d = λ n. absurd (n refl)
new_owner_at g (p ∷ ps) b j d =
    if_case (λ y. (y ≡ 0 → ⊥) → OwnerAt g (p ∷ ps) b j d y)
    (λ e n. (0, omega arith, omega arith, e))
    (λ e n. let h = new_owner_at g ps (suc b) j d n in (suc h.0, omega arith, omega arith, h.3))

-- an entry that goes to none of them: its calls are of none of them
pub new_owner-none
    : (g : ℕ) (ps : List Page) (a k : ℕ)
    → g ≤ 32
    → Each (λ q. q.depth ≤ g) ps
    → new_owner g ps (suc a) (index g k) ≡ 0
    → Each (λ q. In q k → ⊥) ps
unfolding new_owner
new_owner-none g [] a k w h = λ e. end
new_owner-none g (p ∷ ps) a k w h =
    if_case (λ y. y ≡ 0 → Each (λ q. In q k → ⊥) (p ∷ ps)) (λ e z. absurd (omega arith))
    (λ e z. next (λ i. true≢false (sym (in_begins g p k (first h) w i) ∙ e)) (new_owner-none g ps (suc a) k w (rest h) z))

-- no call is of two of the pages
pub data Lone (k : ℕ) : List Page → Type 0 where
  alone : Lone k []
  one : {q : Page} {qs : List Page} → (In q k → Each (λ p. In p k → ⊥) qs) → Lone k qs → Lone k (q ∷ qs)

-- the entry of a call goes to the new page that the call is of
pub new_owner_is
    : (g : ℕ) (ps : List Page) (b k m : ℕ) (d : Page)
    → g ≤ 32
    → Each (λ q. q.depth ≤ g) ps
    → Lone k ps
    → m < length ps
    → In (get_or ps m d) k
    → new_owner g ps b (index g k) ≡ b + m
unfolding new_owner
new_owner_is g [] b k m d w h o l i = absurd (omega arith)
new_owner_is g (p ∷ ps) b k zero d w h (one f o) l i = if-true _ _ (in_begins g p k (first h) w i) ∙ (omega arith)
new_owner_is g (p ∷ ps) b k (suc m) d w h (one f o) l i =
    if_case (λ y. y ≡ b + suc m) (λ e. absurd (each_at ps m d (omega arith) (f (begins_in g p k (first h) w e)) i))
    (λ e. new_owner_is g ps (suc b) k m d w (rest h) o (omega arith) i ∙ (omega arith))
