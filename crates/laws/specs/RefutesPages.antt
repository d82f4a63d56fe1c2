-- A test that fails refutes the claim: where a field of `PagesTold` holds, the test of that name in WeighedPages is true. As in Refutes, each is shown
-- from the field's statement alone, whatever the machine is, and whatever the result.
use Rattle.std.specs.Prelude.{ℕ, suc, ◌≤◌, ◌≡◌, refl, true, false, get_or, eqb, Option, Some}
use Rattle.std.proofs.Common.{sym, ap, ◌∙◌, arith}
use Rattle.std.proofs.lemmas.Bool.{false≢true}
use borrow.Author.Tests.{eqb-true, eqb-false, eq-eqb, lt-ltb, not-false}
use Rattle.spec.specs.declared.Rec.{Rec}
use Rattle.spec.specs.declared.Kind.{Kind}
use Rattle.spec.specs.declared.Kind.TheVariants.{Search}
use Rattle.spec.specs.declared.Task.TheVariants.{Decide}
use Rattle.spec.specs.declared.Stage.{Stage}
use Rattle.spec.specs.declared.Stage.TheVariants.{NotBegun, ReadPage, Reread, Lock, Held, Split, Done}
use Rattle.spec.specs.Basics.{when}
use Rattle.spec.specs.File.{File}
use Rattle.spec.specs.Job.{Job}
use Rattle.spec.specs.Result.{Result}
use Rattle.spec.specs.Proper.{PageNo}
use Rattle.spec.specs.Claims.{state_at, Stood, LastRead, in_page, call_at, told_at, PagesTold}
use Rattle.laws.specs.Tools.{and_left, and_right}
use Rattle.laws.specs.Refutes.{is_or, is_and, every_true, some-true, same_found_true}
use Rattle.laws.specs.Weighed.{is_search}
use Rattle.laws.specs.WeighedPages.{is_page, page_read, is_decide, page_decided, is_given, is_number, at_some, at_page, none_behind, read_then, rec_told, untold, in_use, finds, lacks, holds, decides, names}

is_page_true : (f : File) (x : ℕ) → PageNo f x → is_page f x ≡ true
unfolding is_page
is_page_true f x h = is_and (lt-ltb 0 x h.0) (lt-ltb x (suc f.used) (omega (arith, h.1)))

not_search : (k : Kind) → is_search k ≡ false → k ≡ Search → ⊥
unfolding is_search
not_search k f e = false≢true (sym f ∙ ap is_search e)

-- an operation that stood at a stage for which f gives page x
at_page_true : (f : Stage → Option ℕ) (x : ℕ) (j : Job) (i : ℕ) (st : Stage) (t : ℕ) → f st ≡ Some x → Stood j i st t → at_page f x j i t ≡ true
unfolding at_page is_number
at_page_true f x j i st t e h = is_and (eq-eqb _ _ h.named) (rw (h.stage, e) (eq-eqb x x refl))

page-read : (x : ℕ) → page_read (ReadPage x) ≡ Some x
unfolding page_read
page-read x = refl

page-decided : (x : ℕ) → page_decided (Held x Decide) ≡ Some x
unfolding page_decided is_decide when
page-decided x = refl

-- a stage that reads a page
is_reading : (st : Stage) → is_given (page_read st) ≡ true → (y : ℕ) × (st ≡ ReadPage y)
unfolding page_read is_given
is_reading NotBegun e = absurd (false≢true e)
is_reading (ReadPage y) e = (y, refl)
is_reading (Reread y t) e = absurd (false≢true e)
is_reading (Lock y) e = absurd (false≢true e)
is_reading (Held y t) e = absurd (false≢true e)
is_reading (Split y b n q) e = absurd (false≢true e)
is_reading Done e = absurd (false≢true e)

none_behind_true : (j : Job) (i t : ℕ) → ((y u : ℕ) → Stood j i (ReadPage y) u → u ≤ t) → none_behind j i t ≡ true
unfolding none_behind at_some
none_behind_true j i t h =
    every_true _ _
    (λ u l.
    is_or
    (λ f.
    let e = not-false _ f in
    let st = is_reading _ (and_right (eqb (get_or j.turns u 0) i) _ e) in
    let read : Stood j i (ReadPage st.0) u
    = record { within = l; named = eqb-true _ _ (and_left (eqb (get_or j.turns u 0) i) _ e); stage = st.1 } in
    lt-ltb u (suc t) (omega (arith, h st.0 u read))))

read_then_true
    : (j : Job) (r : Result) (i : ℕ) (o : Option Rec) (t : ℕ)
    → LastRead j i (told_at r i) t
    → in_page (state_at j t).file (told_at r i) (call_at j i) ≡ o
    → read_then j r i o t ≡ true
unfolding read_then
read_then_true j r i o t h e =
    is_and (is_and (at_page_true page_read (told_at r i) j i _ t (page-read _) h.read) (none_behind_true j i t h.last)) (same_found_true e)

-- The fields, in the claim's order.
module _ (j : Job) (r : Result) (e : PagesTold j r) where
  untold-true : untold j r ≡ true
  unfolding untold
  untold-true = every_true _ _ (λ i l. is_or (λ t. eq-eqb _ _ (e.untold i (eqb-true _ _ (not-false _ t)))))

  in_use-true : in_use j r ≡ true
  unfolding in_use
  in_use-true = every_true _ _ (λ i l. is_or (λ t. is_page_true _ _ (e.in_use i (eqb-false _ _ t))))

  finds-true : finds j r ≡ true
  unfolding finds
  finds-true =
      every_true _ _
      (λ i l.
      is_or
      (λ t.
      let (u, read, has) = e.finds i (eqb-true _ _ (not-false _ t)) in
      some-true _ (read_then j r i (Some (rec_told j r i))) u read.read.within (read_then_true j r i _ u read has)))

  lacks-true : lacks j r ≡ true
  unfolding lacks
  lacks-true =
      every_true _ _
      (λ p l.
      is_or
      (λ t.
      let (read, has) = e.lacks p l (eqb-true _ _ (not-false _ t)) in
      is_and (lt-ltb _ _ read.read.within) (read_then_true j r _ _ _ read has)))

  holds-true : holds j r ≡ true
  unfolding holds
  holds-true = every_true _ _ (λ p l. is_or (λ t. same_found_true (e.holds p l (eqb-true _ _ (not-false _ t)))))

  decides-true : decides j r ≡ true
  unfolding decides
  decides-true =
      every_true _ _
      (λ i l.
      is_or
      (λ a.
      is_or
      (λ b.
      is_or
      (λ c.
      let (u, h) = e.decides i (not_search _ a) (eqb-false _ _ b) (eqb-false _ _ c) in
      some-true _ (at_page page_decided (told_at r i) j i) u h.within (at_page_true page_decided (told_at r i) j i _ u (page-decided _) h)))))

  names-true : names j r ≡ true
  unfolding names
  names-true = every_true _ _ (λ p l. is_or (λ t. eq-eqb _ _ (e.names p l (not_search _ t))))

  -- all of them
  pub pages_passes
      : (untold j r ≡ true)
      × (in_use j r ≡ true)
      × (finds j r ≡ true)
      × (lacks j r ≡ true)
      × (holds j r ≡ true)
      × (decides j r ≡ true)
      × (names j r ≡ true)
  pages_passes = (untold-true, in_use-true, finds-true, lacks-true, holds-true, decides-true, names-true)
