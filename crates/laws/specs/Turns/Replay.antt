-- The plain list, fed the lines of a moment in order, answers as the rows do; and from one moment to the next it goes with what the file holds.
use Prim.Native.Nat.{ℕ, zero, suc, ◌+◌, ◌<◌, ◌≤◌}
use Rattle.std.specs.Prelude.{◌≡◌, refl, ◌⊎◌, length, Option}
use Rattle.std.proofs.Math.Path.{sym, ap}
use Rattle.std.proofs.Common.{◌∙◌, inr}
use Rattle.std.proofs.Math.Logic.{inl, ⊎_elim, by_cases}
use mathlib.Core.List.{List, [], ◌∷◌, ◌++◌}
use native.Mathlib.Omega.{arith}
use Rattle.std.proofs.Math.Decide.{ℕ_discrete}
use Rattle.std.proofs.Math.ListN.{get_or}
use Rattle.spec.specs.declared.Rec.{Rec}
use Rattle.spec.specs.declared.Op.{Op}
use Rattle.spec.specs.Basics.{if}
use Rattle.spec.specs.File.{find_in}
use Rattle.spec.specs.Job.{no_op}
use Rattle.spec.specs.Code.{not_yet}
use Rattle.spec.specs.State.{Row, State, gone}
use Rattle.spec.specs.Turn.{rec_of}
use Rattle.spec.specs.Run.{row_of}
use Rattle.spec.specs.Result.{Line, lines_at, lines_from}
use Rattle.spec.specs.PlainList.{Plain, turned_down, plain_step}
use Rattle.laws.specs.Tools.{if_case}
use Rattle.laws.specs.Turns.Records.{added_other, added_own, without_own, without_other}
use Rattle.laws.specs.Turns.Rows.{code_row}
use Rattle.laws.specs.Turns.Says.{Says, is_found, is_none, is_stored, is_there, is_deleted, is_absent, is_no_depth, is_no_page, is_differing, Changes, changes-code, says_change}
use Rattle.laws.specs.Turns.History.{RowRight}
use Rattle.laws.specs.Turns.Account.{Mut, Account}
use Rattle.laws.specs.Turns.Log.{Marked, marked, unmarked}

-- what the plain list says to an operation whose code is k
abbrev pub Ask : Op → ℕ → List Rec → Plain
Ask op k l = plain_step op.kind op (find_in l op.call) k l

-- the list goes from l to l' as code k says: it changes only at the operation's call, to b
abbrev Goes : Op → Option Rec → ℕ → List Rec → List Rec → Type 0
Goes op b k l l' =
    ((l' ≡ l) × (Changes k → ⊥))
    ⊎ (Changes k × (find_in l' op.call ≡ b) × ((j : ℕ) → (j ≡ op.call → ⊥) → find_in l' j ≡ find_in l j))

abbrev Out : Op → Option Rec → ℕ → ℕ → List Rec → Plain → Type 0
Out op b k c l p = (p.code ≡ k) × (p.charge ≡ c) × Goes op b k l p.list

ask : (op : Op) (a b : Option Rec) (k c : ℕ) (l : List Rec) → Says op a b k c → find_in l op.call ≡ a → Out op b k c l (Ask op k l)
unfolding plain_step turned_down if
ask op a b k c l (is_found r i j e) q = rw (i, q ∙ j) (refl, refl, inl (refl, ⊎_elim (λ w. omega arith) (λ w. omega arith)))
ask op a b k c l (is_none i j e) q = rw (i, q ∙ j) (refl, refl, inl (refl, ⊎_elim (λ w. omega arith) (λ w. omega arith)))
ask op a b k c l (is_stored i j e) q =
    rw (i, q ∙ j) (refl, refl, inr (inl refl, added_own l (rec_of op) (q ∙ j) ∙ sym e, λ m n. added_other l (rec_of op) m n))
ask op a b k c l (is_there r i j e) q = rw (i, q ∙ j) (refl, refl, inl (refl, ⊎_elim (λ w. omega arith) (λ w. omega arith)))
ask op a b k c l (is_deleted r i j t e) q =
    rw (i, q ∙ j, t) (refl, refl, inr (inr refl, without_own l op.call ∙ sym e, λ m n. without_other l op.call m n))
ask op a b k c l (is_absent i j e) q = rw (i, q ∙ j) (refl, refl, inl (refl, ⊎_elim (λ w. omega arith) (λ w. omega arith)))
ask op a b k c l (is_no_depth i j e) q = rw (i, q ∙ j) (refl, refl, inl (refl, ⊎_elim (λ w. omega arith) (λ w. omega arith)))
ask op a b k c l (is_no_page i j e) q = rw (i, q ∙ j) (refl, refl, inl (refl, ⊎_elim (λ w. omega arith) (λ w. omega arith)))
ask op a b k c l (is_differing r i j t e) q = rw (i, q ∙ j, t) (refl, refl, inl (refl, ⊎_elim (λ w. omega arith) (λ w. omega arith)))

-- it makes no difference to an answer that changes nothing whether it is asked before the moment's change or after
says-before
    : {op : Op} {a b : Option Rec} {k c : ℕ} (o : Option Rec)
    → Says op a b k c
    → (o ≡ a) ⊎ ((o ≡ b) × (Changes k → ⊥))
    → o ≡ a
says-before o y m = ⊎_elim (λ e. e) (λ e. ⊎_elim (λ q. e.0 ∙ q) (λ q. absurd (e.1 q.0)) (says_change y)) m

-- the plain list is fed lines, and goes from one list to another
pub data Runs (ops : List Op) (s : State) : List Line → List Rec → List Rec → Type 0 where
  stop : {l : List Rec} → Runs ops s [] l l
  feed
      : {h : Line} {hs : List Line} {l l' : List Rec}
      → (Ask (get_or ops h.op no_op) (row_of s h.op).code l).code ≡ (row_of s h.op).code
      → (Ask (get_or ops h.op no_op) (row_of s h.op).code l).charge ≡ (row_of s h.op).charge
      → Runs ops s hs (Ask (get_or ops h.op no_op) (row_of s h.op).code l).list l'
      → Runs ops s (h ∷ hs) l l'

runs_append
    : {ops : List Op} {s : State} {xs ys : List Line} {a b c : List Rec}
    → Runs ops s xs a b
    → Runs ops s ys b c
    → Runs ops s (xs ++ ys) a c
runs_append stop r = r
runs_append (feed e g q) r = feed e g (runs_append q r)

module _ (H : ℕ → ℕ → Option Rec) (W F : ℕ → ℕ) (ops : List Op) (s : State)
    (right : (i : ℕ) → ((row_of s i).code ≡ not_yet → ⊥) → RowRight H W (F i) i (get_or ops i no_op) s.now (row_of s i))
  where
    -- within a moment: the operations below i have been fed, and what the list has of call k is as before the moment, or as after it if one of
    -- them has changed it
    abbrev MidOf : ℕ → ℕ → List Rec → ℕ → Type 0
    MidOf t i l k =
        ((find_in l k ≡ H t k) × ((e : ℕ) → e < i → Mut ops s e t k → ⊥))
        ⊎ ((find_in l k ≡ H (suc t) k) × ((e : ℕ) × (e < i) × Mut ops s e t k))

    abbrev Mid : ℕ → ℕ → List Rec → Type 0
    Mid t i l = (k : ℕ) → MidOf t i l k

    -- two that change the file at one moment are one
    one_mut : (t i e k : ℕ) → Mut ops s e t k → (row_of s i).moment ≡ t → Changes (row_of s i).code → e ≡ i
    one_mut t i e k h m c =
        sym ((right e (changes-code _ h.code)).2 h.code) ∙ ap W (h.moment ∙ sym m) ∙ (right i (changes-code _ c)).2 c

    skip : (t i : ℕ) (l : List Rec) → ((k : ℕ) → Mut ops s i t k → ⊥) → Mid t i l → Mid t (suc i) l
    skip t i l n m k =
        ⊎_elim (λ w. inl (w.0, λ e q h. by_cases (ℕ_discrete e i) (λ (z : e ≡ i). n k (rw z at h)) (λ z. w.1 e (omega arith) h)))
        (λ w. inr (w.0, (w.1.0, omega (arith, w.1.1), w.1.2)))
        (m k)

    fed
        : (t i : ℕ) (l : List Rec)
        → ((row_of s i).code ≡ not_yet → ⊥)
        → (row_of s i).moment ≡ t
        → Mid t i l
        → ((Ask (get_or ops i no_op) (row_of s i).code l).code ≡ (row_of s i).code)
        × ((Ask (get_or ops i no_op) (row_of s i).code l).charge ≡ (row_of s i).charge)
        × Mid t (suc i) (Ask (get_or ops i no_op) (row_of s i).code l).list
    fed t i l n e m = (o.0, o.1, next o.2)
      where
        op : Op
        op = get_or ops i no_op

        y : Says op (H t op.call) (H (suc t) op.call) (row_of s i).code (row_of s i).charge
        y = rw e at (right i n).0

        o : Out op (H (suc t) op.call) (row_of s i).code (row_of s i).charge l (Ask op (row_of s i).code l)
        o =
            ask op _ _ (row_of s i).code (row_of s i).charge l y
            (says-before _ y
            (⊎_elim (λ w. inl w.0) (λ w. inr (w.0, λ c. let z = one_mut t i w.1.0 _ w.1.2 e c in omega (arith, w.1.1)))
            (m op.call)))

        next
            : Goes op (H (suc t) op.call) (row_of s i).code l (Ask op (row_of s i).code l).list
            → Mid t (suc i) (Ask op (row_of s i).code l).list
        next (inl w) = rw w.0 (skip t i l (λ k h. w.1 h.code) m)
        next (inr w) = λ k.
            by_cases (ℕ_discrete k op.call)
            (λ (z : k ≡ op.call). inr (rw z w.1, (i, omega arith, record { code = w.0; moment = e; call = z })))
            (λ z.
            ⊎_elim
            (λ u.
            inl (
              w.2 k z ∙ u.0,
              λ e' q h.
                  by_cases (ℕ_discrete e' i) (λ (y : e' ≡ i). z (h.call ∙ ap (λ x. (get_or ops x no_op).call) y))
                  (λ y. u.1 e' (omega arith) h),
            ))
            (λ u. inr (w.2 k z ∙ u.0, (u.1.0, omega (arith, u.1.1), u.1.2)))
            (m k))

    -- the lines of one moment
    moment
        : (t : ℕ) (rs : List Row) (i n : ℕ) (l : List Rec)
        → ((m : ℕ) → get_or rs m gone ≡ row_of s (i + m))
        → i + length rs ≡ n
        → Mid t i l
        → (l' : List Rec) × Runs ops s (lines_at t rs i) l l' × Mid t n l'
    unfolding lines_at
    moment t [] i n l h e m = let z : i ≡ n = omega arith in (l, stop, rw z at m)
    moment t (r ∷ rs) i n l h e m =
        let row : r ≡ row_of s i = h 0 ∙ ap (row_of s) (omega arith) in
        let tail : (m : ℕ) → get_or rs m gone ≡ row_of s (suc i + m) = λ m. h (suc m) ∙ ap (row_of s) (omega arith) in
        if_case (λ (ls : List Line). (l' : List Rec) × Runs ops s ls l l' × Mid t n l')
        (λ u.
        let k : Marked t (row_of s i) = rw row at (marked t r u) in
        let o = fed t i l k.code k.moment m in
        let w = moment t rs (suc i) n _ tail (omega arith) o.2 in
        (w.0, feed o.0 o.1 w.1, w.2))
        (λ u.
        moment t rs (suc i) n l tail (omega arith)
        (skip t i l (λ k q. unmarked t (row_of s i) (rw row at u) (record { code = changes-code _ q.code; moment = q.moment })) m))

    -- all lines of the turns from t on
    module _ (account : Account H ops s) where
      pub lines
          : (n t : ℕ) (l : List Rec)
          → t + n ≤ s.now
          → ((k : ℕ) → find_in l k ≡ H t k)
          → (l' : List Rec) × Runs ops s (lines_from n t s.rows) l l' × ((k : ℕ) → find_in l' k ≡ H (t + n) k)
      unfolding lines_from row_of
      lines zero t l b a = (l, stop, λ k. a k ∙ ap (λ i. H i k) (omega arith))
      lines (suc n) t l b a =
          let all : (m : ℕ) → get_or s.rows m gone ≡ row_of s (0 + m) = λ m. ap (λ i. get_or s.rows i gone) (omega arith) in
          let w = moment t s.rows 0 (length s.rows) l all (omega arith) (λ k. inl (a k, λ e q h. absurd (omega arith))) in
          let v = lines n (suc t) w.0 (omega arith) (λ k. after t w.0 k (omega arith) (w.2 k)) in
          (v.0, runs_append w.1 v.1, λ k. v.2 k ∙ ap (λ i. H i k) (omega arith))
        where
          -- all have been fed
          after : (t : ℕ) (l : List Rec) (k : ℕ) → t < s.now → MidOf t (length s.rows) l k → find_in l k ≡ H (suc t) k
          after t l k q (inl x) =
              ⊎_elim (λ y. x.0 ∙ sym y) (λ y. absurd (x.1 y.0 (code_row s y.0 (changes-code _ y.1.code)) y.1))
              (account.cause t k q)
          after t l k q (inr x) = x.0
