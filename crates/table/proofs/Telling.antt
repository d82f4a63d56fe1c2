-- The rows told one after another: none, and one row more; the buffers keep their lengths, and the count of those under way stays small.
use mathlib.Core.Path.{◌≡◌, refl, sym, ap, ◌∙◌, subst}
use mathlib.Core.Bool.{Bool, true, false}
use mathlib.Core.List.{List}
use Prim.Native.Nat.{ℕ, zero, suc, ◌+◌, ◌≤◌}
use native.Mathlib.Numerals.{add-one}
use native.Mathlib.Omega.{arith}
use lib.ListN.{length, get_or}
use mir.Val.{bool_byte}
use Rattle.spec.specs.Split.{digit}
use Rattle.wire.specs.OverLaws.{length_over}
use Rattle.turn.specs.declared.Row.{Row}
use Rattle.turn.specs.Rows.{blank_row}
use Rattle.result.specs.Marks.{begun_number, with_answer, with_mark}
use Rattle.result.specs.Image.{begun_small}
use Rattle.table.specs.Told.{Told, told, tell_row, tell_rows}

-- a test is counted as the number that it is
pub counted : (t : Bool) {v n : ℕ} → v ≡ bool_byte t → digit t ≡ n → v ≡ n
unfolding digit
counted true e h = e ∙ h
counted false e h = e ∙ h

abbrev pub Same : Told → Told → Type 0
Same u v = (length u.result ≡ length v.result) × (length u.work ≡ length v.work)

pub lengths : (rows : List Row) (k : ℕ) (u : Told) → Same (tell_rows rows k u) u
unfolding tell_rows tell_row with_answer with_mark
lengths rows zero u = (refl, refl)
lengths rows (suc k) u =
    let v = tell_rows rows k u in
    let h = lengths rows k u in
    (length_over v.result _ _ ∙ h.0, length_over v.work _ _ ∙ h.1)

pub under_small : (rows : List Row) (k : ℕ) (s w : List ℕ) → (tell_rows rows k (told s w 0)).under ≤ k
unfolding tell_rows tell_row
under_small rows zero s w = omega arith
under_small rows (suc k) s w = let h = under_small rows k s w in omega (arith, h, begun_small (get_or rows k blank_row).stage)

pub none_told : (rows : List Row) (u : Told) → tell_rows rows 0 u ≡ u
unfolding tell_rows
none_told rows u = refl

pub one_more : (rows : List Row) (k : ℕ) (u : Told) → tell_row (get_or rows k blank_row) k (tell_rows rows k u) ≡ tell_rows rows (k + 1) u
unfolding tell_rows
one_more rows k u = subst (λ (j : ℕ). tell_row (get_or rows k blank_row) k (tell_rows rows k u) ≡ tell_rows rows j u) (sym (add-one k)) refl

pub told_is : (r : Row) (k : ℕ) (u : Told) (s w : List ℕ) (v : ℕ) → (v ≡ begun_number r.stage) × (s ≡ with_answer r k u.result) × (w ≡ with_mark r k u.work) → told s w (u.under + v) ≡ tell_row r k u
unfolding tell_row
told_is r k u s w v e = (λ j. told (e.1 j) (e.2 j) (u.under + e.0 j))

-- a row more
pub more_told
    : (rows : List Row) (k : ℕ) (u : Told) {s w : List ℕ} {n : ℕ} (s' w' : List ℕ) (v : ℕ)
    → told s w n ≡ tell_rows rows k u
    → (v ≡ begun_number (get_or rows k blank_row).stage) × (s' ≡ with_answer (get_or rows k blank_row) k s) × (w' ≡ with_mark (get_or rows k blank_row) k w)
    → told s' w' (n + v) ≡ tell_rows rows (k + 1) u
more_told rows k u {s} {w} {n} s' w' v h e =
    told_is (get_or rows k blank_row) k (told s w n) s' w' v e
    ∙ ap (tell_row (get_or rows k blank_row) k) h
    ∙ one_more rows k u

-- at most one of each row is under way
pub few_told
    : (rows : List Row) (k : ℕ) (s₀ w₀ : List ℕ) {s w : List ℕ} {n : ℕ} (v : ℕ)
    → told s w n ≡ tell_rows rows k (told s₀ w₀ 0)
    → v ≡ begun_number (get_or rows k blank_row).stage
    → n + v ≤ k + 1
few_told rows k s₀ w₀ {s} {w} {n} v h e =
    let same : n ≡ (tell_rows rows k (told s₀ w₀ 0)).under = ap (λ (q : Told). q.under) h in
    omega (arith, under_small rows k s₀ w₀, begun_small (get_or rows k blank_row).stage)
