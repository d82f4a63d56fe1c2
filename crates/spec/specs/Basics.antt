-- Small tools that several definitions share. Nothing of the document is here.
use Rattle.std.specs.Prelude.{ℕ, suc, List, [], ◌∷◌, ◌++◌, Bool, true, false, ◌&&◌, ◌||◌, Option, None, Some}

-- a test decides. It stays shut where it is not named, so that a law on `if b x y` finds b, x and y
unfoldable pub if : {A : Type 0} → Bool → A → A → A
if true x y = x
if false x y = y

-- the bytes of each member, one behind another
unfoldable pub each : {A : Type 0} → (A → List ℕ) → List A → List ℕ
each f [] = []
each f (x ∷ xs) = f x ++ each f xs

-- place p, where the test holds
unfoldable pub when : Bool → ℕ → Option ℕ
when true p = Some p
when false p = None

unfoldable pub or_else : {A : Type 0} → Option A → Option A → Option A
or_else None y = y
or_else (Some x) y = Some x

-- the first that is there. (`let`, here and below: what comes later is not computed where an earlier one decides)
unfoldable pub among : List (Option ℕ) → Option ℕ
among [] = None
among (x ∷ xs) = let rest = among xs in or_else x rest

-- of the members of a list, numbered from i, the first for which f tells something: a place, or a fault
unfoldable pub first_of : {A B : Type 0} → (ℕ → A → Option B) → ℕ → List A → Option B
first_of f i [] = None
first_of f i (x ∷ xs) = let rest = first_of f (suc i) xs in or_else (f i x) rest

-- the test holds of one of the members, numbered from i
unfoldable pub any_of : {A : Type 0} → (ℕ → A → Bool) → ℕ → List A → Bool
any_of f i [] = false
any_of f i (x ∷ xs) = let rest = any_of f (suc i) xs in f i x || rest

-- the test holds of every member
unfoldable pub all_of : {A : Type 0} → (A → Bool) → List A → Bool
all_of f [] = true
all_of f (x ∷ xs) = f x && all_of f xs

-- the members that pass a test, in order
unfoldable pub filter : {A : Type 0} → (A → Bool) → List A → List A
filter f [] = []
filter f (x ∷ xs) = if (f x) (x ∷ filter f xs) (filter f xs)

-- every member has a property
pub data Each {A : Type 0} (P : A → Type 0) : List A → Type 0 where
  end : Each P []
  next : {x : A} {xs : List A} → P x → Each P xs → Each P (x ∷ xs)

-- x is a member
pub data Has {A : Type 0} (x : A) : List A → Type 0 where
  here : {xs : List A} → Has x (x ∷ xs)
  there : {y : A} {xs : List A} → Has x xs → Has x (y ∷ xs)
