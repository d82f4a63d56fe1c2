-- A split is worked out again from its page on each of its turns. It is each time the split that was decided on turn (d): from then on until
-- the old page is written nobody else writes that page, since the operation holds it, and the operation itself writes only its new pages.
use Rattle.std.specs.Prelude.{ℕ, zero, suc, ◌+◌, ◌-◌, ◌<◌, ◌≤◌, ◌≡◌, refl, List, length, get_or, None}
use Rattle.std.proofs.Math.Path.{sym}
use Rattle.std.proofs.Common.{◌∙◌, inl, arith, get_or-set_other}
use Rattle.std.proofs.Math.Logic.{by_cases}
use Rattle.std.proofs.Math.Decide.{ℕ_discrete}
use Rattle.spec.specs.declared.Op.{Op}
use Rattle.spec.specs.declared.Task.{Task}
use Rattle.spec.specs.declared.Task.TheVariants.{Verify, Release, Decide, WritePage, WriteOld, Unlock}
use Rattle.spec.specs.declared.Part.{Part}
use Rattle.spec.specs.declared.Part.TheVariants.{WriteNew, WriteEntry, UnlockNew}
use Rattle.spec.specs.declared.Stage.{Stage}
use Rattle.spec.specs.declared.Stage.TheVariants.{NotBegun, ReadPage, Reread, Lock, Held, Split, Done}
use Rattle.spec.specs.File.{File, zero_page, page_at}
use Rattle.spec.specs.Job.{Job, no_op}
use Rattle.spec.specs.Split.{Grown}
use Rattle.spec.specs.State.{State, Move}
use Rattle.spec.specs.Turn.{plan_of, old_written, held_turn, split_turn, turn}
use Rattle.spec.specs.Run.{table_after, file_after, row_of, stage_of, step}
use Rattle.spec.specs.Proper.{FileOk}
use Rattle.spec.specs.Claims.{state_at}
use Rattle.laws.specs.Turns.Rows.{stage-after, step_case}
use Rattle.laws.specs.Turns.Locks.{Holds}
use Rattle.laws.specs.Turns.Plans.{plan_same}
use Rattle.laws.specs.Turns.Good.{Fine, MayPage, Good, page_other}
use Rattle.laws.specs.Turns.Legal.{i_legal}
use Rattle.laws.specs.Turns.States.{who, state_at-suc}
use Rattle.laws.specs.Turns.Whole.{whole}
use Rattle.laws.specs.Turns.Decision.{decided_case}

-- the turns of a split, until the old page is written, leave its page
pub split_page
    : (s : State) (op : Op) (x b n : ℕ) (q : Part)
    → Fine s.file op (Split x b n q)
    → page_at (file_after (split_turn s op x b n q) s.file) x ≡ page_at s.file x
unfolding split_turn page_at table_after
split_page s op x b n (WriteNew i) fi = get_or-set_other s.file.table (b + i) x _ zero_page (λ e. omega (arith, fi.0.below))
split_page s op x b n (WriteEntry j) fi = refl
split_page s op x b n UnlockNew fi = refl

-- The split of page x, into new pages b + 1 to b + n, was decided with plan p: what is so of it at the operation's stage. At stages that do not
-- follow on turn (d) nothing is.
module _ (op : Op) (x b n : ℕ) (p : Grown) where
  abbrev pub FrozenTask : File → ℕ → Task → Type 0
  FrozenTask f y Verify = ⊥
  FrozenTask f y (Release z) = ⊥
  FrozenTask f y Decide = ⊥
  FrozenTask f y WritePage = ⊥
  FrozenTask f y WriteOld = (y ≡ x) × (plan_of f op x ≡ p)
  FrozenTask f y Unlock = Unit {0}

  abbrev pub Frozen : File → Stage → Type 0
  Frozen f NotBegun = ⊥
  Frozen f (ReadPage y) = ⊥
  Frozen f (Reread y t) = ⊥
  Frozen f (Lock y) = ⊥
  Frozen f (Held y t) = FrozenTask f y t
  Frozen f (Split y a m q) = (y ≡ x) × (a ≡ b) × (m ≡ n) × (plan_of f op x ≡ p)
  Frozen f Done = Unit {0}

  -- a move that leaves the pages that the operation holds
  task_after
      : (f : File) (m : Move) (y : ℕ) (t : Task)
      → page_at (file_after m f) y ≡ page_at f y
      → FrozenTask f y t
      → FrozenTask (file_after m f) y t
  task_after f m y Verify e h = h
  task_after f m y (Release z) e h = h
  task_after f m y Decide e h = h
  task_after f m y WritePage e h = h
  task_after f m y WriteOld e h = (h.0, plan_same f m op x (rw h.0 at e) ∙ h.1)
  task_after f m y Unlock e h = h

  frozen_after
      : (f : File) (m : Move) (st : Stage)
      → ((y : ℕ) → Holds st y → page_at (file_after m f) y ≡ page_at f y)
      → Frozen f st
      → Frozen (file_after m f) st
  frozen_after f m NotBegun a h = h
  frozen_after f m (ReadPage y) a h = h
  frozen_after f m (Reread y t) a h = h
  frozen_after f m (Lock y) a h = h
  frozen_after f m (Held y t) a h = task_after f m y t (a y refl) h
  frozen_after f m (Split y c k q) a h = (h.0, h.1, h.2, plan_same f m op x (rw h.0 at (a y (inl refl))) ∙ h.3)
  frozen_after f m Done a h = h

  -- the operation's own turn
  held_frozen
      : (s : State) (y : ℕ) (t : Task)
      → FrozenTask s.file y t
      → Frozen (file_after (held_turn s op y t) s.file) (held_turn s op y t).stage
  unfolding held_turn old_written
  held_frozen s y Verify h = absurd h
  held_frozen s y (Release z) h = absurd h
  held_frozen s y Decide h = absurd h
  held_frozen s y WritePage h = absurd h
  held_frozen s y WriteOld h = tt
  held_frozen s y Unlock h = tt

  split_frozen
      : (s : State) (y a m : ℕ) (q : Part)
      → Fine s.file op (Split y a m q)
      → Frozen s.file (Split y a m q)
      → Frozen (file_after (split_turn s op y a m q) s.file) (split_turn s op y a m q).stage
  unfolding split_turn
  split_frozen s y a m q fi h = two q (plan_same s.file (split_turn s op y a m q) op x (rw (← h.0) (split_page s op y a m q fi)) ∙ h.3)
    where
      two
          : (q : Part)
          → plan_of (file_after (split_turn s op y a m q) s.file) op x ≡ p
          → Frozen (file_after (split_turn s op y a m q) s.file) (split_turn s op y a m q).stage
      two (WriteNew i) e = (h.0, h.1, h.2, e)
      two (WriteEntry j) e = (h.0, h.1, h.2, e)
      two UnlockNew e = (h.0, e)

  own_frozen
      : (s : State) (st : Stage)
      → Fine s.file op st
      → Frozen s.file st
      → Frozen (file_after (turn s op st) s.file) (turn s op st).stage
  unfolding turn
  own_frozen s NotBegun fi h = absurd h
  own_frozen s (ReadPage y) fi h = absurd h
  own_frozen s (Reread y t) fi h = absurd h
  own_frozen s (Lock y) fi h = absurd h
  own_frozen s (Held y t) fi h = held_frozen s y t h
  own_frozen s (Split y a m q) fi h = split_frozen s y a m q fi h
  own_frozen s Done fi h = tt

-- turn (d) writes no page
decide_page : (s : State) (op : Op) (x : ℕ) (st : Stage) → st ≡ Held x Decide → (turn s op st).page ≡ None
unfolding turn held_turn
decide_page s op x st e = rw e (decided_case s op x (λ (m : Move). m.page ≡ None) (λ a. refl) refl (λ l u. refl) _)

-- a turn of operation k, where operation i is under way
module _ (ops : List Op) (s : State) (i k : ℕ) (good : Good ops s) where
  abbrev op : Op
  op = get_or ops i no_op

  -- nobody else writes a page that operation i holds
  pub held-page
      : (m : Move) (y : ℕ)
      → MayPage (stage_of s k) m.page
      → (k ≡ i → m.page ≡ None)
      → Holds (stage_of s i) y
      → page_at (file_after m s.file) y ≡ page_at s.file y
  unfolding page_at table_after
  held-page m y may own h =
      by_cases (ℕ_discrete k i) (λ e. rw (own e, table_after))
      (λ e. page_other s.file.table (stage_of s k) m.page may y (λ q. e (good.locks.apart k i y q h)))

  step_frozen
      : (x b n : ℕ) (p : Grown)
      → Frozen op x b n p s.file (stage_of s i)
      → Frozen op x b n p (step ops s k).file (stage_of (step ops s k) i)
  unfolding stage_of row_of
  step_frozen x b n p h =
      step_case (λ t. Frozen op x b n p t.file (stage_of t i)) ops s k h
      (λ lt e.
      let m = turn s (get_or ops k no_op) (stage_of s k) in
      stage-after s k m lt (λ j st. j ≡ i → Frozen op x b n p (file_after m s.file) st)
      (λ (z : k ≡ i). rw z (own_frozen op x b n p s (stage_of s i) (good.fine i) h))
      (λ j z (y : j ≡ i). rw y (frozen_after op x b n p s.file m (stage_of s i)
      (λ q. held-page m q (i_legal ops s k good e).page (λ w. absurd (z (y ∙ sym w)))) h))
      i refl)

  -- nobody writes page x, where operation i is to decide on it
  step-decides : (x : ℕ) → stage_of s i ≡ Held x Decide → plan_of (step ops s k).file op x ≡ plan_of s.file op x
  step-decides x h =
      step_case (λ t. plan_of t.file op x ≡ plan_of s.file op x) ops s k refl
      (λ lt e.
      let m = turn s (get_or ops k no_op) (stage_of s k) in
      plan_same s.file m op x
      (held-page m x (i_legal ops s k good e).page (λ (z : k ≡ i). decide_page s _ x _ (rw z h)) (rw h refl)))

-- the split of page x that operation i decided on turn t, as it is before turn u
abbrev pub DecidedOn : Job → ℕ → ℕ → ℕ → ℕ → ℕ → ℕ → Type 0
DecidedOn j i t u x b n =
    Frozen (get_or j.ops i no_op) x b n (plan_of (state_at j t).file (get_or j.ops i no_op) x) (state_at j u).file (stage_of (state_at j u) i)

frozen_for
    : (j : Job)
    → FileOk j.file
    → (i t d x b n : ℕ)
    → suc t + d ≤ length j.turns
    → stage_of (state_at j t) i ≡ Held x Decide
    → stage_of (state_at j (suc t)) i ≡ Split x b n (WriteNew 1)
    → DecidedOn j i t (suc t + d) x b n
frozen_for j ok i t zero x b n l h e =
    let w = whole j ok t (omega arith) in
    let z : suc t + zero ≡ suc t = omega arith in
    rw (z, e, state_at-suc j t (omega arith)) (refl, refl, refl, step-decides j.ops _ i (who j t) w.good x h)
frozen_for j ok i t (suc d) x b n l h e =
    let w = whole j ok (suc t + d) (omega arith) in
    let z : suc t + suc d ≡ suc (suc t + d) = omega arith in
    rw (z, state_at-suc j (suc t + d) (omega arith))
    (step_frozen j.ops _ i (who j (suc t + d)) w.good x b n _ (frozen_for j ok i t d x b n (omega arith) h e))

pub frozen
    : (j : Job)
    → FileOk j.file
    → (i t u x b n : ℕ)
    → t < u
    → u ≤ length j.turns
    → stage_of (state_at j t) i ≡ Held x Decide
    → stage_of (state_at j (suc t)) i ≡ Split x b n (WriteNew 1)
    → DecidedOn j i t u x b n
frozen j ok i t u x b n l k h e =
    let z : suc t + (u - suc t) ≡ u = omega arith in
    rw z at (frozen_for j ok i t (u - suc t) x b n (omega arith) h e)
