-- Laws of `over`: its length, what is read at the place and elsewhere, one write behind another, apart from it or over it, and parts.
use Rattle.std.specs.Prelude.{◌≡◌, refl, List, [], ◌∷◌, ◌++◌, ℕ, suc, ◌+◌, ◌/◌, ◌%◌, ◌≤◌, ◌<◌, length, get_or, set, take, drop}
use Rattle.std.proofs.Common.{sym, ap, ◌∙◌, append_assoc, append-nil, le_of_lt, add-one, arith, set-set, drop-set-lt, take-suc, length-take-le}
use Rattle.std.proofs.lemmas.List.Edits.{sets, sets-eq}
use Rattle.std.proofs.Math.Seq.{length-sets, drop-length}
use Rattle.std.proofs.lemmas.List.{set_comm}
use Rattle.spec.specs.Bytes.{two, four}
use Rattle.wire.specs.Over.{over}

pub over_none : (s : List ℕ) (at : ℕ) → over s at [] ≡ s
unfolding over
over_none s at = refl

pub over-one : (s : List ℕ) (at v : ℕ) → over s at (v ∷ []) ≡ set s at v
unfolding over
over-one s at v = refl

pub length_over : (s : List ℕ) (at : ℕ) (x : List ℕ) → length (over s at x) ≡ length s
unfolding over
length_over s at x = length-sets s at x

-- ---- two writes

-- one behind another
pub over-over : (x y s : List ℕ) (at b : ℕ) → b ≡ at + length x → over (over s at x) b y ≡ over s at (x ++ y)
unfolding over
over-over [] y s at b e = let z : b ≡ at = omega arith in rw z
over-over (v ∷ x) y s at b e = over-over x y (set s at v) (suc at) b (omega arith)

-- a number of 4 bytes by its halves
pub over_four : (s : List ℕ) (at v : ℕ) → over (over s at (two (v % 65536))) (at + 2) (two (v / 65536)) ≡ over s at (four v)
unfolding four two
over_four s at v = over-over (two (v % 65536)) (two (v / 65536)) s at (at + 2) refl

-- a loop that writes y front to back, a byte a turn: i bytes are written, and then one more
pub over_next
    : (y s : List ℕ) (at i : ℕ)
    → i < length y
    → set (over s at (take i y)) (at + i) (get_or y i 0) ≡ over s at (take (i + 1) y)
over_next y s at i h =
    sym (over-one (over s at (take i y)) (at + i) (get_or y i 0))
    ∙ over-over (take i y) (get_or y i 0 ∷ []) s at (at + i) (omega (arith, length-take-le i y (le_of_lt h)))
    ∙ ap (over s at) (sym (take-suc y i 0 h) ∙ ap (λ (n : ℕ). take n y) (sym (add-one i)))

-- a store before what is written
set_over : (x s : List ℕ) (a at v : ℕ) → a < at → set (over s at x) a v ≡ over (set s a v) at x
unfolding over
set_over [] s a at v h = refl
set_over (w ∷ x) s a at v h =
    set_over x (set s at w) a (suc at) v (omega arith) ∙ ap (λ (l : List ℕ). sets l (suc at) x) (set_comm s at a w v (λ e. omega arith))

-- two that lie apart, in either order
pub over_swap : (x y s : List ℕ) (a b : ℕ) → a + length x ≤ b → over (over s b y) a x ≡ over (over s a x) b y
unfolding over
over_swap [] y s a b h = refl
over_swap (v ∷ x) y s a b h =
    ap (λ (l : List ℕ). sets l (suc a) x) (set_over y s a b v (omega arith)) ∙ over_swap x y (set s a v) (suc a) b (omega arith)

-- what is written over again
pub over_again : (y z s : List ℕ) (at : ℕ) → length y ≤ length z → over (over s at y) at z ≡ over s at z
unfolding over
over_again [] z s at h = refl
over_again (v ∷ y) [] s at h = absurd (omega arith)
over_again (v ∷ y) (w ∷ z) s at h =
    ap (λ (l : List ℕ). over l (suc at) z)
    (over_swap (w ∷ []) y (set s at v) at (suc at) (omega arith) ∙ ap (λ (l : List ℕ). over l (suc at) y) (set-set s at v w))
    ∙ over_again y z (set s at w) (suc at) (omega arith)

-- ---- parts

-- the whole, by its three parts
pub over_parts : (x s : List ℕ) (at : ℕ) → at + length x ≤ length s → over s at x ≡ take at s ++ (x ++ drop (at + length x) s)
unfolding over
over_parts x s at h = sets-eq x s at h ∙ append_assoc (take at s) x (drop (at + length x) s)

-- in front
pub over-front : (x s : List ℕ) → length x ≤ length s → over s 0 x ≡ x ++ drop (length x) s
over-front x s h =
    let z : 0 + length x ≡ length x = omega arith in
    over_parts x s 0 (omega arith) ∙ ap (λ (n : ℕ). x ++ drop n s) z

-- all of it
pub over_whole : (x s : List ℕ) → length x ≡ length s → over s 0 x ≡ x
over_whole x s e =
    let z : 0 + length x ≡ length s = omega arith in
    over_parts x s 0 (omega arith) ∙ rw (z, drop-length s, append-nil x)

pub drop_over : (x s : List ℕ) (at n : ℕ) → at + length x ≤ n → drop n (over s at x) ≡ drop n s
unfolding over
drop_over [] s at n h = refl
drop_over (v ∷ x) s at n h = drop_over x (set s at v) (suc at) n (omega arith) ∙ drop-set-lt n s at v (omega arith)
