-- The log of one operation more: its line goes behind the lines that are no later than its own, or there is none.
use Rattle.std.specs.Prelude.{◌≡◌, refl, true, false, List, [], ◌∷◌, ◌++◌, ℕ, zero, suc, ◌+◌, ◌≤◌, ◌<◌, length, get_or}
use Rattle.std.proofs.Common.{sym, ◌∙◌, append_assoc, arith, length-append, length-take, length-drop, get_or-append-add, le-leb}
use Rattle.std.proofs.Math.Logic.{by_cases}
use Rattle.std.proofs.Math.Bool.{not-eq-not}
use Rattle.std.proofs.Math.Decide.{ℕ_discrete}
use Rattle.std.proofs.Math.ListN.{get_or-append}
use Rattle.std.proofs.Math.Seq.{take-append_seam, drop-append_seam, append_snoc}
use Rattle.std.proofs.lemmas.Bool.{lt-leb}
use Rattle.spec.specs.Basics.{Each, end, next}
use Rattle.spec.specs.Code.{not_yet}
use Rattle.spec.specs.State.{Row}
use Rattle.spec.specs.Result.{Line, is_at, lines_at, lines_from}
use Rattle.laws.specs.Tools.{if_case, if-true, if-false, if_ap, each_append, each_at, each_imp}
use Rattle.laws.specs.Codec.Tools.{each_imp₂ as each_both}
use Rattle.laws.specs.Turns.Log.{Marked, marked, unmarked}
use Rattle.result.specs.Lines.{line, seat, placed}

-- ---- whether a row has a line at turn t

hit : (t : ℕ) (r : Row) → Marked t r → is_at t r ≡ true
hit t r m = (not-eq-not {a = is_at t r} {b = true}).0 (λ e. unmarked t r e m)

miss : (t : ℕ) (r : Row) → (Marked t r → ⊥) → is_at t r ≡ false
miss t r m = (not-eq-not {a = is_at t r} {b = false}).0 (λ e. m (marked t r e))

-- ---- the lines of one turn

at_hit : (t : ℕ) (rs : List Row) (r : Row) (i : ℕ) → Marked t r → lines_at t (rs ++ (r ∷ [])) i ≡ lines_at t rs i ++ (line t (i + length rs) ∷ [])
unfolding lines_at
at_hit t [] r i m = let e : i + 0 ≡ i = omega arith in rw e (if-true _ _ (hit t r m))
at_hit t (q ∷ rs) r i m =
    let e : i + suc (length rs) ≡ suc i + length rs = omega arith in
    let more : List Line = line t (suc i + length rs) ∷ [] in
    rw (e, at_hit t rs r (suc i) m) (if_ap (λ ls. ls ++ more) (is_at t q) (line t i ∷ lines_at t rs (suc i)) (lines_at t rs (suc i)))

at_miss : (t : ℕ) (rs : List Row) (r : Row) (i : ℕ) → (Marked t r → ⊥) → lines_at t (rs ++ (r ∷ [])) i ≡ lines_at t rs i
unfolding lines_at
at_miss t [] r i m = if-false _ _ (miss t r m)
at_miss t (q ∷ rs) r i m = rw (at_miss t rs r (suc i) m)

at_moment : (t : ℕ) (rs : List Row) (i : ℕ) → Each (λ l. l.moment ≡ t) (lines_at t rs i)
unfolding lines_at
at_moment t [] i = end
at_moment t (r ∷ rs) i = if_case (Each (λ l. l.moment ≡ t)) (λ u. next refl (at_moment t rs (suc i))) (λ u. at_moment t rs (suc i))

-- ---- the lines of n turns

from_miss
    : (n t : ℕ) (rs : List Row) (r : Row)
    → ((u : ℕ) → t ≤ u → u < t + n → Marked u r → ⊥)
    → lines_from n t (rs ++ (r ∷ [])) ≡ lines_from n t rs
unfolding lines_from
from_miss zero t rs r m = refl
from_miss (suc n) t rs r m =
    rw (at_miss t rs r 0 (m t (omega arith) (omega arith)), from_miss n (suc t) rs r (λ u h k. m u (omega arith) (omega arith)))

from-moment : (n t : ℕ) (rs : List Row) → Each (λ l. t ≤ l.moment) (lines_from n t rs)
unfolding lines_from
from-moment zero t rs = end
from-moment (suc n) t rs =
    each_append (lines_at t rs 0) _ (each_imp (λ l e. omega arith) (at_moment t rs 0))
    (each_imp (λ l h. omega arith) (from-moment n (suc t) rs))

-- the numbers in the lines
at_op : (t : ℕ) (rs : List Row) (i : ℕ) → Each (λ l. l.op < i + length rs) (lines_at t rs i)
unfolding lines_at
at_op t [] i = end
at_op t (r ∷ rs) i =
    let ih : Each (λ l. l.op < i + suc (length rs)) (lines_at t rs (suc i)) = each_imp (λ l h. omega arith) (at_op t rs (suc i)) in
    if_case (Each (λ l. l.op < i + suc (length rs))) (λ u. next (omega arith) ih) (λ u. ih)

pub from-small : (n t : ℕ) (rs : List Row) → Each (λ l. (l.moment < t + n) × (l.op < length rs)) (lines_from n t rs)
unfolding lines_from
from-small zero t rs = end
from-small (suc n) t rs =
    each_append (lines_at t rs 0) _
    (each_both (λ l e h. (omega arith, omega arith)) (at_moment t rs 0) (at_op t rs 0))
    (each_imp (λ l h. (omega (arith, h.0), h.1)) (from-small n (suc t) rs))

-- no operations, no lines
pub log-none : (n t : ℕ) → lines_from n t [] ≡ []
unfolding lines_from lines_at
log-none zero t = refl
log-none (suc n) t = log-none n (suc t)

-- no line yet, where the operation has no code
pub log_same : (n : ℕ) (rs : List Row) (r : Row) → r.code ≡ not_yet → lines_from n 0 (rs ++ (r ∷ [])) ≡ lines_from n 0 rs
log_same n rs r e = from_miss n 0 rs r (λ u h k m. m.code e)

-- Y is X with the line h between those of moment u and before, and those after
record Between (u : ℕ) (h : Line) (X Y : List Line) : Type 0 where
  front : List Line
  back : List Line
  whole : X ≡ front ++ back
  made : Y ≡ front ++ (h ∷ back)
  low : Each (λ l. l.moment ≤ u) front
  high : Each (λ l. u < l.moment) back

now_between
    : (n t : ℕ) (rs : List Row) (r : Row)
    → Marked t r
    → Between t (line t (length rs)) (lines_from (suc n) t rs) (lines_from (suc n) t (rs ++ (r ∷ [])))
unfolding lines_from
now_between n t rs r m =
    let z : 0 + length rs ≡ length rs = omega arith in
    record {
      front = lines_at t rs 0;
      back = lines_from n (suc t) rs;
      whole = refl;
      made =
          rw (at_hit t rs r 0 m, z, from_miss n (suc t) rs r (λ u h k q. let e : u ≡ t = sym q.moment ∙ m.moment in omega arith))
          (append_snoc (lines_at t rs 0) _ (lines_from n (suc t) rs));
      low = each_imp (λ l e. omega arith) (at_moment t rs 0);
      high = from-moment n (suc t) rs;
    }

later_between
    : (n t : ℕ) (rs : List Row) (r : Row) (u : ℕ) (h : Line)
    → (Marked t r → ⊥)
    → t < u
    → Between u h (lines_from n (suc t) rs) (lines_from n (suc t) (rs ++ (r ∷ [])))
    → Between u h (lines_from (suc n) t rs) (lines_from (suc n) t (rs ++ (r ∷ [])))
unfolding lines_from
later_between n t rs r u h m late b =
    record {
      front = lines_at t rs 0 ++ b.front;
      back = b.back;
      whole = rw b.whole (sym (append_assoc (lines_at t rs 0) b.front b.back));
      made = rw (at_miss t rs r 0 m, b.made) (sym (append_assoc (lines_at t rs 0) b.front (h ∷ b.back)));
      low = each_append (lines_at t rs 0) b.front (each_imp (λ l e. omega arith) (at_moment t rs 0)) b.low;
      high = b.high;
    }

between
    : (n t : ℕ) (rs : List Row) (r : Row) (u : ℕ)
    → Marked u r
    → t ≤ u
    → u < t + n
    → Between u (line u (length rs)) (lines_from n t rs) (lines_from n t (rs ++ (r ∷ [])))
between zero t rs r u m h k = absurd (omega arith)
between (suc n) t rs r u m h k =
    by_cases (ℕ_discrete t u)
    (λ (e : t ≡ u). rw (← e) (now_between n t rs r (rw (← e) at m)))
    (λ e.
    later_between n t rs r u (line u (length rs)) (λ q. e (sym q.moment ∙ m.moment)) (omega arith)
    (between n (suc t) rs r u m (omega arith) (omega arith)))

-- ---- the seat of a line

seat_back
    : (t : ℕ) (A B : List Line) (d : ℕ)
    → Each (λ l. t < l.moment) B
    → d ≤ length B
    → seat t (A ++ B) (length A + d) ≡ seat t (A ++ B) (length A)
unfolding seat
seat_back t A B zero h k = let e : length A + 0 ≡ length A = omega arith in rw e
seat_back t A B (suc d) h k =
    let e : length A + suc d ≡ suc (length A + d) = omega arith in
    let late : t < (get_or (A ++ B) (length A + d) (line 0 0)).moment = rw (get_or-append-add A B d (line 0 0)) (each_at B d (line 0 0) (omega arith) h) in
    rw e (if-false _ _ (lt-leb _ _ late) ∙ seat_back t A B d h (omega arith))

seat_front : (t : ℕ) (A B : List Line) → Each (λ l. l.moment ≤ t) A → seat t (A ++ B) (length A) ≡ length A
unfolding seat
seat_front t A B h = by (length A) refl
  where
    by : (k : ℕ) → length A ≡ k → seat t (A ++ B) k ≡ k
    by zero e = refl
    by (suc k) e =
        let early : (get_or (A ++ B) k (line 0 0)).moment ≤ t
        = rw (get_or-append A B (line 0 0) k (omega arith)) (each_at A k (line 0 0) (omega arith) h) in
        if-true _ _ (le-leb _ _ early)

between_placed : {h : Line} {X Y : List Line} → Between h.moment h X Y → Y ≡ placed X h
unfolding placed
between_placed {h} {X} {Y} b =
    let u = h.moment in
    let k : seat u (b.front ++ b.back) (length (b.front ++ b.back)) ≡ length b.front =
    rw length-append (seat_back u b.front b.back (length b.back) b.high (omega arith) ∙ seat_front u b.front b.back b.low)
    in
    rw (b.whole, k, take-append_seam, drop-append_seam) b.made

-- the log with the operation's line in its place
pub log-more
    : (n : ℕ) (rs : List Row) (r : Row)
    → (r.code ≡ not_yet → ⊥)
    → r.moment < n
    → lines_from n 0 (rs ++ (r ∷ [])) ≡ placed (lines_from n 0 rs) (line r.moment (length rs))
log-more n rs r c l = between_placed (between n 0 rs r r.moment (record { code = c; moment = refl }) (omega arith) (omega arith))

-- ---- a line more

pub seat_le : (t : ℕ) (ls : List Line) (k : ℕ) → seat t ls k ≤ k
unfolding seat
seat_le t ls zero = omega arith
seat_le t ls (suc k) = let h = seat_le t ls k in if_case (λ (n : ℕ). n ≤ suc k) (λ e. omega arith) (λ e. omega arith)

pub placed-length : (ls : List Line) (h : Line) → length (placed ls h) ≡ suc (length ls)
unfolding placed
placed-length ls h =
    let k = seat_le h.moment ls (length ls) in
    rw (length-append, length-take, length-drop) (omega arith)
