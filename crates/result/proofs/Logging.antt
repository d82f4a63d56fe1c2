-- The log of the first i operations stands in the buffer.
use mathlib.Core.Path.{◌≡◌, refl, sym, ap, ◌∙◌}
use mathlib.Core.List.{List, [], ◌∷◌, ◌++◌}
use Rattle.std.specs.Prelude.{Option, None, Some, SomeIff}
use Prim.Native.Nat.{ℕ, suc, ◌+◌, ◌-◌, ◌*◌, ◌≤◌, ◌<◌}
use native.Mathlib.Numerals.{add-one}
use native.Mathlib.Omega.{arith}
use lib.ListN.{length, get_or, take, drop, length-append, take-append-drop}
use lib.Seq.{take-suc, take_all, length-take-le}
use borrow.Author.Tests.{eqb-true, eq-eqb, ne_eqb}
use Rattle.spec.specs.Basics.{each, Each}
use Rattle.spec.specs.Bytes.{word}
use Rattle.spec.specs.Code.{not_yet}
use Rattle.spec.specs.State.{Row, gone}
use Rattle.spec.specs.Result.{Line, line_size, line_bytes, lines_from}
use Rattle.laws.specs.Tools.{if_case, if-true, if-false, each_imp}
use Rattle.laws.specs.Codec.Parts.{each_join}
use Rattle.laws.specs.Codec.Sizes.{length-lines}
use Rattle.wire.specs.Over.{over}
use Rattle.wire.specs.OverLaws.{length_over, over_none}
use Rattle.result.specs.Marks.{mark_number, mark_of, mark_place}
use Rattle.result.specs.Lines.{line, seat, placed, lines_in, with_line, Logged, LogWritten}
use Rattle.wire.specs.Joined.{renewed}
use Rattle.result.specs.LineLaws.{lines_back, Small}
use Rattle.result.specs.LogLaws.{log-none, log_same, log-more, from-small, seat_le, placed-length}

pub record Logging (w : List ℕ) (m : ℕ) (s₀ : List ℕ) (at i : ℕ) (s : List ℕ) (k : ℕ) : Type 0 where
  pub within : i ≤ m
  pub few : k ≤ i
  pub kept : length s ≡ length s₀
  pub bytes : (rs : List Row) (n : ℕ) → Logged rs n w m → s ≡ over s₀ at (each line_bytes (lines_from n 0 (take i rs)))
  pub lines : (rs : List Row) (n : ℕ) → Logged rs n w m → k ≡ length (lines_from n 0 (take i rs))

pub start : (w : List ℕ) (m : ℕ) (s : List ℕ) (at : ℕ) → Logging w m s at 0 s 0
unfolding each
start w m s at =
    record {
      within = omega arith;
      few = omega arith;
      kept = refl;
      bytes = λ rs n h. rw (log-none n 0) (sym (over_none s at));
      lines = λ rs n h. rw (log-none n 0);
    }

pub finish : {w : List ℕ} {m : ℕ} {s₀ : List ℕ} {at i : ℕ} {s : List ℕ} {k : ℕ} → m ≤ i → Logging w m s₀ at i s k → LogWritten w m s₀ at s k
finish {m = m} {i = i} h l =
    record {
      few = omega (arith, l.few, l.within);
      bytes = λ rs n g. rw (all rs g.count) at (l.bytes rs n g);
      lines = λ rs n g. rw (all rs g.count) at (l.lines rs n g);
    }
  where
    all : (rs : List Row) → length rs ≡ m → take i rs ≡ rs
    all rs e = take_all i rs (omega arith)

-- a mark says whether the operation has a code, and its moment
mark_none : (r : Row) → mark_of r ≡ 0 → r.code ≡ not_yet
unfolding mark_of mark_number
mark_none r = if_case (λ (k : ℕ). k ≡ 0 → r.code ≡ not_yet) (λ e z. eqb-true _ _ e) (λ e z. absurd (omega arith))

mark_code : (r : Row) → (mark_of r ≡ 0 → ⊥) → r.code ≡ not_yet → ⊥
unfolding mark_of mark_number
mark_code r h e = h (if-true _ _ (eq-eqb _ _ e))

mark_moment : (r : Row) → (mark_of r ≡ 0 → ⊥) → mark_of r ≡ r.moment + 1
unfolding mark_of mark_number
mark_moment r h = if-false _ _ (ne_eqb _ _ (mark_code r h))

-- the lines of the first i operations have numbers that 2 bytes hold
small : (n i : ℕ) (rs : List Row) → n ≤ 65535 → i ≤ 65535 → i ≤ length rs → Each Small (lines_from n 0 (take i rs))
small n i rs h k g =
    let l = length-take-le i rs g in
    each_imp (λ q z. record { moment = omega (arith, z.0); op = omega (arith, z.1) }) (from-small n 0 (take i rs))

-- a line put in its place in the buffer is the lines with that line in its place
put_at
    : (X : List Line) (s : List ℕ) (at : ℕ) (h : Line) (q : ℕ)
    → q ≤ length X
    → over (over s at (each line_bytes X)) (at + line_size * q) (each line_bytes (h ∷ drop q X)) ≡ over s at (each line_bytes (take q X ++ (h ∷ drop q X)))
unfolding each
put_at X s at h q l =
    let front : List ℕ = each line_bytes (take q X) in
    let back : List ℕ = each line_bytes (drop q X) in
    let x : each line_bytes X ≡ front ++ back = ap (each line_bytes) (sym (take-append-drop q X)) ∙ each_join line_bytes (take q X) (drop q X) in
    let n : length front ≡ 4 * q = length-lines (take q X) ∙ ap (λ (n : ℕ). 4 * n) (length-take-le q X l) in
    rw (x, each_join line_bytes (take q X) (h ∷ drop q X))
    (renewed s front back (line_bytes h ++ back) at (at + 4 * q) (omega arith) (rw length-append (omega arith)))

put_line
    : (X : List Line) (s₀ s : List ℕ) (at k : ℕ) (h : Line)
    → s ≡ over s₀ at (each line_bytes X)
    → k ≡ length X
    → Each Small X
    → at + line_size * k ≤ length s₀
    → with_line s at k h ≡ over s₀ at (each line_bytes (placed X h))
unfolding with_line placed
put_line X s₀ s at k h e f sm room =
    let b : lines_in (over s₀ at (each line_bytes X)) at (length X) ≡ X = lines_back X s₀ at sm (omega arith) in
    rw (e, f, b) (put_at X s₀ at h (seat h.moment X (length X)) (seat_le h.moment X (length X)))

next : (rs : List Row) (i : ℕ) → i < length rs → take (i + 1) rs ≡ take i rs ++ (get_or rs i gone ∷ [])
next rs i h = rw add-one (take-suc rs i gone h)

-- operation i, whose mark tells the moment o
module _
    {w : List ℕ} {m : ℕ} {s₀ : List ℕ} {at i : ℕ} {s : List ℕ} {k : ℕ} {o : Option ℕ}
    (e : SomeIff o (1 ≤ word w (mark_place i)) (word w (mark_place i) - 1)) (h : i < m) (l : Logging w m s₀ at i s k)
  where
    pub skip : o ≡ None → Logging w m s₀ at (i + 1) s k
    skip z =
        record {
          within = omega arith;
          few = omega (arith, l.few);
          kept = l.kept;
          bytes = λ rs n g. rw (next rs i (omega (arith, g.count)), same rs n g) (l.bytes rs n g);
          lines = λ rs n g. rw (next rs i (omega (arith, g.count)), same rs n g) (l.lines rs n g);
        }
      where
        same : (rs : List Row) (n : ℕ) → Logged rs n w m → lines_from n 0 (take i rs ++ (get_or rs i gone ∷ [])) ≡ lines_from n 0 (take i rs)
        same rs n g = log_same n (take i rs) (get_or rs i gone) (mark_none (get_or rs i gone) (omega (arith, rw z at e, g.marks.at i (omega (arith, g.count)))))

    pub more
        : {t : List ℕ} {u : ℕ}
        → o ≡ Some u
        → m ≤ 256
        → at + line_size * m ≤ length s₀
        → t ≡ with_line s at k (line u i)
        → Logging w m s₀ at (i + 1) t (k + 1)
    unfolding with_line
    more {t} {u} z few room x =
        record {
          within = omega arith;
          few = omega (arith, l.few);
          kept = ap length x ∙ length_over s _ _ ∙ l.kept;
          bytes =
              λ rs n g.
              let fits = small n i rs g.turns (omega arith) (omega (arith, g.count)) in
              rw (next rs i (omega (arith, g.count)), one rs n g)
              (x ∙ put_line (lines_from n 0 (take i rs)) s₀ s at k (line u i) (l.bytes rs n g) (l.lines rs n g) fits (omega (arith, l.few)));
          lines = λ rs n g. rw (next rs i (omega (arith, g.count)), one rs n g, placed-length, add-one) (ap suc (l.lines rs n g));
        }
      where
        one : (rs : List Row) (n : ℕ) → Logged rs n w m → lines_from n 0 (take i rs ++ (get_or rs i gone ∷ [])) ≡ placed (lines_from n 0 (take i rs)) (line u i)
        one rs n g =
            let r = get_or rs i gone in
            let q : mark_of r ≡ u + 1 = omega (arith, rw z at e, g.marks.at i (omega (arith, g.count))) in
            let code = mark_code r (λ y. omega arith) in
            let moment : r.moment ≡ u = omega (arith, mark_moment r (λ y. omega arith)) in
            let count : length (take i rs) ≡ i = length-take-le i rs (omega (arith, g.count)) in
            rw (moment, count) at (log-more n (take i rs) r code (g.past i (omega (arith, g.count)) code))
