-- A test that fails refutes the claim: where a field of `Explained` or of `InOrder` holds, the test of that name in Weighed is true.
-- Each is shown from the field's statement alone. No law on turns or bytes is used, and no definition of the machine is opened, so it holds
-- whatever the machine is, and whatever the result: one on which one of the fourteen tests is false does not explain the job (`passes`),
-- and where one of the two of `InOrder` is false, some page is out of order (`in_order_passes`).
use Rattle.std.specs.Prelude.{ℕ, zero, suc, ◌<◌, ◌≤◌, ◌≡◌, refl, ◌⊎◌, List, [], ◌∷◌, Bool, true, false, ◌&&◌, ◌||◌, length, get_or, eqb, ltb, Option, None, Some}
use Rattle.std.proofs.Common.{ap, inl, inr, arith}
use Rattle.std.proofs.Math.Bool.{not, or-true}
use Rattle.std.proofs.lemmas.Bool.{false≢true}
use Rattle.std.proofs.Math.Decide.{ℕ_discrete}
use borrow.Author.Tests.{eqb-true, eqb-false, eq-eqb, ne_eqb, lt-ltb, not-false}
use Rattle.spec.specs.declared.Rec.{Rec}
use Rattle.spec.specs.declared.Kind.{Kind}
use Rattle.spec.specs.declared.Kind.TheVariants.{Search, Insert, Delete}
use Rattle.spec.specs.declared.Stage.{Stage}
use Rattle.spec.specs.declared.Stage.TheVariants.{NotBegun, ReadPage, Reread, Lock, Held, Split, Done}
use Rattle.spec.specs.Basics.{all_of, Has, here, there}
use Rattle.spec.specs.Code.{no_depth, no_page}
use Rattle.spec.specs.File.{Page, File, page_at}
use Rattle.spec.specs.Job.{Job, no_op}
use Rattle.spec.specs.State.{State}
use Rattle.spec.specs.Run.{stage_of, run}
use Rattle.spec.specs.Result.{Line, Result}
use Rattle.spec.specs.PlainList.{NoneTwice, empty, more, Reply}
use Rattle.spec.specs.Proper.{CallsRise, flat, rise}
use Rattle.spec.specs.Claims.{state_at, FirstTurn, Ended, Waits, Before, IsFile, Explained, InOrder}
use Rattle.laws.specs.Tools.{is_some, and_left, and_right, each_imp, true_all_of}
use Rattle.laws.specs.Weighed.{every, some_of, same_rec, same_found, same_reply, same, same_page, same_file, is_file, member, none_twice, calls_rise, of_pages, is_done, is_search, waits, ended, first, precedes}
use Rattle.laws.specs.Weighed.{count, answers, refused, once, no_other, sorted, held, charged, list_once, file_once, order, searches, progress_at, progress, finished, pages_rise, looks}

-- tests joined: when they come out true
pub is_not_lem : {a : Bool} → (a ≡ true → ⊥) → not a ≡ true
is_not_lem {a = true} h = absurd (h refl)
is_not_lem {a = false} h = refl

unless : {a : Bool} → (not a ≡ true → ⊥) → a ≡ true
unless {a = true} h = refl
unless {a = false} h = absurd (h refl)

pub is_or : {a b : Bool} → (a ≡ false → b ≡ true) → (a || b) ≡ true
is_or {a = true} h = refl
is_or {a = false} h = h refl

pub is_and : {a b : Bool} → a ≡ true → b ≡ true → (a && b) ≡ true
is_and p q = rw (p, q)

pub eqb_same : (n : ℕ) → eqb n n ≡ true
eqb_same n = eq-eqb n n refl

clash : {a : Bool} → a ≡ true → not a ≡ true → ⊥
clash {a = true} p q = false≢true q
clash {a = false} p q = false≢true p

-- a test of every number below n, both ways; and of one
pub every_true : (n : ℕ) (f : ℕ → Bool) → ((i : ℕ) → i < n → f i ≡ true) → every n f ≡ true
unfolding every
every_true zero f h = refl
every_true (suc n) f h = is_and (h zero (omega arith)) (every_true n (λ i. f (suc i)) (λ i l. h (suc i) (omega arith)))

pub every_at : (n : ℕ) (f : ℕ → Bool) → every n f ≡ true → (i : ℕ) → i < n → f i ≡ true
unfolding every
every_at zero f e i l = absurd (omega arith)
every_at (suc n) f e zero l = and_left (f zero) _ e
every_at (suc n) f e (suc i) l = every_at n (λ k. f (suc k)) (and_right (f zero) _ e) i (omega arith)

pub some-true : (n : ℕ) (f : ℕ → Bool) (i : ℕ) → i < n → f i ≡ true → some_of n f ≡ true
some-true n f i l p = is_not_lem (λ e. clash p (every_at n (λ k. not (f k)) e i l))

-- if one of them fails, another test holds
every_or : (n : ℕ) (f : ℕ → Bool) (b : Bool) → ((i : ℕ) → i < n → not (f i) ≡ true → b ≡ true) → (every n f || b) ≡ true
every_or n f true h = or-true (every n f)
every_or n f false h = rw (every_true n f (λ i l. unless (λ d. false≢true (h i l d))))

-- lists: when their tests come out true
pub same_true : {A : Type 0} (f : A → A → Bool) → ((a : A) → f a a ≡ true) → {xs ys : List A} → xs ≡ ys → same f xs ys ≡ true
unfolding same
same_true f h {xs} e = rw (← e) (go xs)
  where
    go : (zs : List _) → same f zs zs ≡ true
    go [] = refl
    go (z ∷ zs) = is_and (h z) (go zs)

same_rec_true : (a : Rec) → same_rec a a ≡ true
unfolding same_rec
same_rec_true a = is_and (eqb_same a.call) (eqb_same a.charge)

pub same_found_true : {a b : Option Rec} → a ≡ b → same_found a b ≡ true
unfolding same_found
same_found_true {a} e = rw (← e) (go a)
  where
    go : (o : Option Rec) → same_found o o ≡ true
    go None = refl
    go (Some r) = same_rec_true r

same_reply_true : (a : Reply) → same_reply a a ≡ true
unfolding same_reply
same_reply_true a = is_and (eqb_same a.code) (eqb_same a.charge)

member_true : {r : Rec} {rs : List Rec} → Has r rs → member r rs ≡ true
unfolding member
member_true {r} here = rw (same_rec_true r)
member_true {r} (there {y} h) = is_or {a = same_rec y r} (λ e. member_true h)

all_true : {A : Type 0} (f : A → Bool) (xs : List A) → ((x : A) → Has x xs → f x ≡ true) → all_of f xs ≡ true
unfolding all_of
all_true f [] h = refl
all_true f (x ∷ xs) h = is_and (h x here) (all_true f xs (λ a k. h a (there k)))

none_twice_true : {rs : List Rec} → NoneTwice rs → none_twice rs ≡ true
unfolding none_twice is_some
none_twice_true empty = refl
none_twice_true (more e h) = is_and (ap (λ x. not (is_some x)) e) (none_twice_true h)

calls_rise-true : {rs : List Rec} → CallsRise rs → calls_rise rs ≡ true
unfolding calls_rise
calls_rise-true flat = refl
calls_rise-true (rise l h) = is_and (true_all_of _ _ (each_imp (λ a u. lt-ltb _ _ u) l)) (calls_rise-true h)

-- what a test says that comes out true
pub says-done : (x : Stage) → is_done x ≡ true → x ≡ Done
unfolding is_done
says-done NotBegun e = cc
says-done (ReadPage x) e = cc
says-done (Reread x t) e = cc
says-done (Lock x) e = cc
says-done (Held x t) e = cc
says-done (Split x b n q) e = cc
says-done Done e = refl

undone : {x : Stage} → not (is_done x) ≡ true → x ≡ Done → ⊥
unfolding is_done
undone n e = clash (ap is_done e) n

pub says_search : (k : Kind) → is_search k ≡ true → k ≡ Search
unfolding is_search
says_search Search e = refl
says_search Insert e = cc
says_search Delete e = cc

pub says_waits : (s : State) (i : ℕ) → waits s i ≡ true → Waits s i
unfolding waits
says_waits s i e = record { unfinished = undone (and_left _ _ e); idles = and_right (not (is_done (stage_of s i))) _ e }

says-ended : (j : Job) (i t : ℕ) → t < length j.turns → ended j i t ≡ true → Ended j i t
unfolding ended
says-ended j i t l e =
    record {
      within = l;
      before = undone (and_left _ _ e);
      after = says-done _ (and_right (not (is_done (stage_of (state_at j t) i))) _ e);
    }

says_first : (j : Job) (i t : ℕ) → t < length j.turns → first j i t ≡ true → FirstTurn j i t
unfolding first
says_first j i t l e =
    record {
      within = l;
      named = eqb-true _ _ (and_left _ _ e);
      not_before = λ u k n. clash (eq-eqb _ _ n) (every_at t _ (and_right (eqb (get_or j.turns t 0) i) _ e) u k);
    }

says-refused : (k : ℕ) → (eqb k no_depth || eqb k no_page) ≡ true → (k ≡ no_depth) ⊎ (k ≡ no_page)
says-refused k e = elim (ℕ_discrete k no_depth) [ yes p ↦ inl p | no n ↦ inr (eqb-true _ _ (rw (ne_eqb k no_depth n) at e)) ]

precedes_true : (a b : Line) → Before a b → precedes a b ≡ true
unfolding precedes
precedes_true a b (inl l) = rw (lt-ltb _ _ l)
precedes_true a b (inr h) = is_or {a = ltb a.moment b.moment} (λ e. is_and (eq-eqb _ _ h.0) (lt-ltb _ _ h.1))

same_page_true : (p : Page) → same_page p p ≡ true
unfolding same_page
same_page_true p =
    is_and (is_and (eqb_same p.depth) (eqb_same p.pattern)) (same_true same_rec same_rec_true {xs = p.records} refl)

same_file_true : (f : File) → same_file f f ≡ true
unfolding same_file
same_file_true f =
    is_and (is_and (is_and (is_and (is_and (eqb_same f.g) (eqb_same f.c)) (eqb_same f.limit)) (eqb_same f.used)) (same_true eqb eqb_same {xs = f.directory} refl))
    (same_true same_page same_page_true {xs = f.table} refl)

is_file_true : (o : Option (List ℕ)) (h : File) → ((b : List ℕ) → o ≡ Some b → IsFile b h) → is_file o h ≡ true
unfolding is_file is_some
is_file_true None h e = refl
is_file_true (Some b) h e = let k = e b refl in rw (k.0, k.1) (is_and (is_and (same_file_true h) (eqb_same 0)) (eqb_same 0))

-- The fields, in the claim's order.
module _ (j : Job) (r : Result) (e : Explained j r) where
  count-true : count j r ≡ true
  unfolding count
  count-true = eq-eqb _ _ e.count

  answers-true : answers j r ≡ true
  unfolding answers
  answers-true = same_true same_reply same_reply_true e.answers

  refused-true : refused j r ≡ true
  unfolding refused is_some
  refused-true =
      every_true _ _
      (λ p l.
      is_or
      (λ t.
      let (missing, kept) = e.refused p l (says-refused _ (not-false _ t)) in
      is_and (ap (λ x. not (is_some x)) missing) (same_true same_rec same_rec_true kept)))

  once-true : once j r ≡ true
  unfolding once
  once-true = every_true _ _ (λ i l. is_or (λ t. eq-eqb _ _ (e.once i (eqb-false _ _ t))))

  no_other-true : no_other j r ≡ true
  unfolding no_other
  no_other-true = every_true _ _ (λ i l. is_or (λ t. eq-eqb _ _ (e.no_other i (eqb-true _ _ (not-false _ t)))))

  sorted-true : sorted j r ≡ true
  unfolding sorted
  sorted-true = every_true _ _ (λ q l. every_true _ _ (λ p k. precedes_true _ _ (e.sorted p q k l)))

  held-true : held j r ≡ true
  unfolding held
  held-true = is_and (all_true _ _ (λ c k. member_true ((e.held c).0 k))) (all_true _ _ (λ c k. member_true ((e.held c).1 k)))

  charged-true : charged j r ≡ true
  unfolding charged
  charged-true = is_file_true r.file (run j).file e.charged

  list_once-true : list_once j r ≡ true
  unfolding list_once
  list_once-true = every_true _ _ (λ n l. none_twice_true (e.list_once n))

  file_once-true : file_once j r ≡ true
  unfolding file_once
  file_once-true = every_true _ _ (λ t l. none_twice_true (e.file_once t (omega arith)))

  order-true : order j r ≡ true
  unfolding order
  order-true =
      every_true _ _
      (λ q l.
      every_true _ _
      (λ p k.
      every_true _ _
      (λ u m.
      is_or
      (λ f.
      every_true _ _
      (λ t n.
      is_not_lem
      (λ d.
      let later : q < p = e.order q p t u l (omega arith) (says-ended j _ t (omega arith) d) (says_first j _ u m (not-false _ f)) n in
      omega arith))))))

  searches-true : searches j r ≡ true
  unfolding searches
  searches-true =
      every_true _ _
      (λ t l.
      every_true _ _
      (λ i k.
      is_not_lem
      (λ d.
      e.searches t i (omega arith) (says_search _ (and_left _ _ d))
      (says_waits _ i (and_right (is_search (get_or j.ops i no_op).kind) _ d)))))

  progress-true : progress j r ≡ true
  unfolding progress progress_at
  progress-true =
      every_true _ _
      (λ t m.
      every_or _ (λ i. is_done (stage_of (state_at j t) i)) _
      (λ i l d.
      let k = e.progress t i (omega arith) l (undone d) in
      some-true _ (λ i. not (is_done (stage_of (state_at j t) i)) && not (waits (state_at j t) i)) k.0 k.1
      (is_and (is_not_lem (λ x. k.2 (says-done _ x))) (is_not_lem (λ x. k.3 (says_waits _ _ x))))))

  finished-true : finished j r ≡ true
  unfolding finished
  finished-true = every_true _ _ (λ i l. is_or (λ t. is_not_lem (λ c. e.finished i l (says-done _ (not-false _ t)) (eqb-true _ _ c))))

  -- all of them
  pub passes
      : (count j r ≡ true)
      × (answers j r ≡ true)
      × (refused j r ≡ true)
      × (once j r ≡ true)
      × (no_other j r ≡ true)
      × (sorted j r ≡ true)
      × (held j r ≡ true)
      × (charged j r ≡ true)
      × (list_once j r ≡ true)
      × (file_once j r ≡ true)
      × (order j r ≡ true)
      × (searches j r ≡ true)
      × (progress j r ≡ true)
      × (finished j r ≡ true)
  passes = (
    count-true,
    answers-true,
    refused-true,
    once-true,
    no_other-true,
    sorted-true,
    held-true,
    charged-true,
    list_once-true,
    file_once-true,
    order-true,
    searches-true,
    progress-true,
    finished-true,
  )

-- The fields of the other claim.
module _ (j : Job) (r : Result) (e : InOrder j) where
  pages-true
      : (test : List Rec → Bool)
      → ((t x : ℕ) → t ≤ length j.turns → test (page_at (state_at j t).file x).records ≡ true)
      → of_pages j test ≡ true
  unfolding of_pages
  pages-true test h = every_true _ _ (λ t l. every_true _ _ (λ x k. h t x (omega arith)))

  pages_rise-true : pages_rise j r ≡ true
  unfolding pages_rise
  pages_rise-true = pages-true calls_rise (λ t x l. calls_rise-true (e.pages_rise t x l))

  looks-true : looks j r ≡ true
  unfolding looks
  looks-true = pages-true _ (λ t x l. all_true _ _ (λ o h. same_found_true (e.looks t x o.call l)))

  pub in_order_passes : (pages_rise j r ≡ true) × (looks j r ≡ true)
  in_order_passes = (pages_rise-true, looks-true)
