-- The log: each operation that has a code stands in it once, at its moment, and the lines are in order of moment, then operation.
use Rattle.std.specs.Prelude.{ℕ, zero, suc, ◌+◌, ◌-◌, ◌<◌, ◌≤◌, ◌≡◌, List, [], ◌∷◌, ◌++◌, true, false, not, length, get_or, eqb}
use Rattle.std.proofs.Math.Path.{refl}
use Rattle.std.proofs.Common.{sym, ap, ◌∙◌, inl, inr, true≢false, arith, eqb-true, eq-eqb, ne_eqb}
use Rattle.std.proofs.Math.Logic.{by_cases}
use Rattle.std.proofs.Math.Decide.{ℕ_discrete}
use Rattle.std.proofs.lemmas.Bool.{eqb-false, not-true}
use Rattle.spec.specs.Basics.{Each, end, next}
use Rattle.spec.specs.Code.{not_yet}
use Rattle.spec.specs.State.{Row, State, gone}
use Rattle.spec.specs.Run.{row_of}
use Rattle.spec.specs.Result.{Line, is_at, lines_at, lines_from, log_of}
use Rattle.spec.specs.Claims.{times, Before, no_line}
use Rattle.laws.specs.Tools.{if_case, if-true, if-false, and_left, and_right, first, rest, each_imp, each_append, each_at}
use Rattle.laws.specs.Turns.Rows.{code_row}

pub times-nil : (a : ℕ) → times a [] ≡ 0
unfolding times
times-nil a = refl

pub times-cons : (a : ℕ) (h : Line) (hs : List Line) → h.op ≡ a → times a (h ∷ hs) ≡ suc (times a hs)
unfolding times
times-cons a h hs e = if-true _ _ (eq-eqb h.op a e)

pub times_skip : (a : ℕ) (h : Line) (hs : List Line) → (h.op ≡ a → ⊥) → times a (h ∷ hs) ≡ times a hs
unfolding times
times_skip a h hs e = if-false _ _ (ne_eqb h.op a e)

times_join : (a : ℕ) (xs ys : List Line) → times a (xs ++ ys) ≡ times a xs + times a ys
unfolding times
times_join a [] ys = omega arith
times_join a (h ∷ xs) ys =
    let ih = times_join a xs ys in
    by_cases (ℕ_discrete h.op a) (λ e. let p = times-cons a h (xs ++ ys) e in let q = times-cons a h xs e in omega arith)
    (λ e. let p = times_skip a h (xs ++ ys) e in let q = times_skip a h xs e in omega arith)

-- a row has a line at moment t
pub record Marked (t : ℕ) (r : Row) : Type 0 where
  pub code : r.code ≡ not_yet → ⊥
  pub moment : r.moment ≡ t

pub marked : (t : ℕ) (r : Row) → is_at t r ≡ true → Marked t r
unfolding is_at
marked t r u =
    record {
      code = eqb-false _ _ (not-true _ (and_left (not (eqb r.code not_yet)) _ u));
      moment = eqb-true _ _ (and_right (not (eqb r.code not_yet)) _ u);
    }

pub unmarked : (t : ℕ) (r : Row) → is_at t r ≡ false → Marked t r → ⊥
unfolding is_at
unmarked t r u m = true≢false (sym (rw (ne_eqb r.code not_yet m.code) (eq-eqb r.moment t m.moment)) ∙ u)

-- the lines of one moment
at_miss : (t : ℕ) (rs : List Row) (i a : ℕ) → ((m : ℕ) → a ≡ i + m → Marked t (get_or rs m gone) → ⊥) → times a (lines_at t rs i) ≡ 0
unfolding lines_at
at_miss t [] i a n = times-nil a
at_miss t (r ∷ rs) i a n =
    let ih = at_miss t rs (suc i) a (λ m e k. n (suc m) (omega arith) k) in
    if_case (λ ls. times a ls ≡ 0)
    (λ u. times_skip a _ _ (λ e. n 0 (omega arith) (marked t r u)) ∙ ih)
    (λ u. ih)

at_hit : (t : ℕ) (rs : List Row) (i a m : ℕ) → a ≡ i + m → Marked t (get_or rs m gone) → times a (lines_at t rs i) ≡ 1
unfolding lines_at
at_hit t [] i a m e k = absurd (k.code refl)
at_hit t (r ∷ rs) i a zero e k =
    if_case (λ ls. times a ls ≡ 1)
    (λ u. times-cons a _ _ (omega arith) ∙ ap suc (at_miss t rs (suc i) a (λ m q. absurd (omega arith))))
    (λ u. absurd (unmarked t r u k))
at_hit t (r ∷ rs) i a (suc m) e k =
    let ih = at_hit t rs (suc i) a m (omega arith) k in
    if_case (λ ls. times a ls ≡ 1) (λ u. times_skip a _ _ (λ q. omega arith) ∙ ih) (λ u. ih)

from_miss
    : (n t : ℕ) (rs : List Row) (a : ℕ)
    → ((u : ℕ) → t ≤ u → u < t + n → Marked u (get_or rs a gone) → ⊥)
    → times a (lines_from n t rs) ≡ 0
unfolding lines_from
from_miss zero t rs a h = times-nil a
from_miss (suc n) t rs a h =
    let p = at_miss t rs 0 a (λ m e k. let z : m ≡ a = omega arith in h t (omega arith) (omega arith) (rw z at k)) in
    let q = from_miss n (suc t) rs a (λ u l l' k. h u (omega arith) (omega arith) k) in
    times_join a (lines_at t rs 0) _ ∙ (omega arith)

from_hit : (n t : ℕ) (rs : List Row) (a u : ℕ) → t ≤ u → u < t + n → Marked u (get_or rs a gone) → times a (lines_from n t rs) ≡ 1
unfolding lines_from
from_hit zero t rs a u l l' k = absurd (omega arith)
from_hit (suc n) t rs a u l l' k =
    times_join a (lines_at t rs 0) _
    ∙ by_cases (ℕ_discrete t u)
    (λ (e : t ≡ u).
    let p = at_hit t rs 0 a a (omega arith) (rw e k) in
    let q = from_miss n (suc t) rs a (λ v h h' z. let y : u ≡ v = sym k.moment ∙ z.moment in omega arith) in
    omega arith)
    (λ e.
    let no : (m : ℕ) → a ≡ 0 + m → Marked t (get_or rs m gone) → ⊥
    = λ m q z. let y : m ≡ a = omega arith in e (sym z.moment ∙ rw y k.moment) in
    let p = at_miss t rs 0 a no in
    let q = from_hit n (suc t) rs a u (omega arith) (omega arith) k in
    omega arith)

-- a line of the operations that are numbered from i: its moment is t, and the row of its operation has one then
record Inside (t : ℕ) (rs : List Row) (i : ℕ) (h : Line) : Type 0 where
  time : h.moment ≡ t
  from : i ≤ h.op
  mark : Marked t (get_or rs (h.op - i) gone)

inside_cons : (t : ℕ) (r : Row) (rs : List Row) (i : ℕ) (h : Line) → Inside t rs (suc i) h → Inside t (r ∷ rs) i h
inside_cons t r rs i h w =
    let e : h.op - i ≡ suc (h.op - suc i) = omega (arith, w.from) in
    record { time = w.time; from = omega (arith, w.from); mark = rw e w.mark }

inside : (t : ℕ) (rs : List Row) (i : ℕ) → Each (Inside t rs i) (lines_at t rs i)
unfolding lines_at
inside t [] i = end
inside t (r ∷ rs) i =
    let ih = each_imp (λ h w. inside_cons t r rs i h w) (inside t rs (suc i)) in
    let z : i - i ≡ 0 = omega arith in
    if_case (Each (Inside t (r ∷ rs) i)) (λ u. next (record { time = refl; from = omega arith; mark = rw z (marked t r u) }) ih) (λ u. ih)

-- every line from turn t on is its operation's, at the operation's moment
says : (n t : ℕ) (rs : List Row) → Each (λ h. Marked h.moment (get_or rs h.op gone) × (t ≤ h.moment)) (lines_from n t rs)
unfolding lines_from
says zero t rs = end
says (suc n) t rs =
    each_append (lines_at t rs 0) _
    (each_imp
    (λ h w.
    let z : h.op - 0 ≡ h.op = omega arith in
    (rw (w.time, ← z) w.mark, omega (arith, w.time)))
    (inside t rs 0))
    (each_imp (λ h w. (w.0, omega (arith, w.1))) (says n (suc t) rs))

-- lines in order
data Sorted : List Line → Type 0 where
  none : Sorted []
  one : {h : Line} {hs : List Line} → Each (Before h) hs → Sorted hs → Sorted (h ∷ hs)

sorted_join : (xs ys : List Line) → Sorted xs → Sorted ys → Each (λ a. Each (Before a) ys) xs → Sorted (xs ++ ys)
sorted_join [] ys s t h = t
sorted_join (x ∷ xs) ys (one e s) t h = one (each_append xs ys e (first h)) (sorted_join xs ys s t (rest h))

sorted-moment : (t : ℕ) (rs : List Row) (i : ℕ) → Sorted (lines_at t rs i)
unfolding lines_at
sorted-moment t [] i = none
sorted-moment t (r ∷ rs) i =
    if_case Sorted
    (λ u. one (each_imp (λ h w. inr (sym w.time, omega (arith, w.from))) (inside t rs (suc i))) (sorted-moment t rs (suc i)))
    (λ u. sorted-moment t rs (suc i))

sorted-from : (n t : ℕ) (rs : List Row) → Sorted (lines_from n t rs)
unfolding lines_from
sorted-from zero t rs = none
sorted-from (suc n) t rs =
    sorted_join (lines_at t rs 0) _ (sorted-moment t rs 0) (sorted-from n (suc t) rs)
    (each_imp (λ h w. each_imp (λ g v. inl (omega (arith, w.time, v.1))) (says n (suc t) rs)) (inside t rs 0))

sorted_at : (hs : List Line) (p q : ℕ) → Sorted hs → p < q → q < length hs → Before (get_or hs p no_line) (get_or hs q no_line)
sorted_at [] p q s l l' = absurd (omega arith)
sorted_at (h ∷ hs) p zero s l l' = absurd (omega arith)
sorted_at (h ∷ hs) zero (suc q) (one e s) l l' = each_at hs q no_line (omega arith) e
sorted_at (h ∷ hs) (suc p) (suc q) (one e s) l l' = sorted_at hs p q s (omega arith) (omega arith)

-- of a state
module _ (s : State) where
  pub log-once : (i : ℕ) → ((row_of s i).code ≡ not_yet → ⊥) → (row_of s i).moment < s.now → times i (log_of s) ≡ 1
  unfolding log_of row_of
  log-once i n l = from_hit s.now 0 s.rows i (row_of s i).moment (omega arith) (omega arith) (record { code = n; moment = refl })

  pub log_other : (i : ℕ) → (row_of s i).code ≡ not_yet → times i (log_of s) ≡ 0
  unfolding log_of row_of
  log_other i z = from_miss s.now 0 s.rows i (λ u l l' k. k.code z)

  pub log-sorted : (p q : ℕ) → p < q → q < length (log_of s) → Before (get_or (log_of s) p no_line) (get_or (log_of s) q no_line)
  unfolding log_of
  log-sorted p q l l' = sorted_at _ p q (sorted-from s.now 0 s.rows) l l'

  pub log-says : (p : ℕ) → p < length (log_of s) → Marked (get_or (log_of s) p no_line).moment (row_of s (get_or (log_of s) p no_line).op)
  unfolding log_of row_of
  log-says p l = (each_at (lines_from s.now 0 s.rows) p no_line l (says s.now 0 s.rows)).0

  pub log-rows : Each (λ h. h.op < length s.rows) (log_of s)
  unfolding log_of row_of
  log-rows = each_imp (λ h w. code_row s h.op w.0.code) (says s.now 0 s.rows)
