-- The turn on which an entry was changed from a page can be looked up by the entry and the page's depth, in a table with one number for each:
-- as long as the page's pattern begins the entry no later change has taken its place. So the moment of a search that found a stale record is one
-- reading. The code keeps such a table, and writes one number on each turn that writes an entry.
use Rattle.std.specs.Prelude.{ℕ, ◌^◌, ◌<◌, ◌≡◌, refl, List, true, ◌&&◌, length, get_or, eqb, Some}
use Rattle.std.proofs.Common.{sym, ap, ◌∙◌, arith, eqb-true, eq-eqb}
use Rattle.std.proofs.Math.Logic.{⊎_elim}
use Rattle.std.proofs.lemmas.Bool.{false≢true, eqb-false}
use Rattle.spec.specs.declared.Rec.{Rec}
use Rattle.spec.specs.declared.Op.{Op}
use Rattle.spec.specs.declared.Part.{Part}
use Rattle.spec.specs.declared.Part.TheVariants.{WriteNew, WriteEntry, UnlockNew}
use Rattle.spec.specs.declared.Stage.{Stage}
use Rattle.spec.specs.declared.Stage.TheVariants.{NotBegun, ReadPage, Reread, Lock, Held, Split, Done}
use Rattle.spec.specs.Basics.{if}
use Rattle.spec.specs.File.{File, page_at, entry_at, find_in}
use Rattle.spec.specs.Job.{no_op}
use Rattle.spec.specs.State.{State, Move}
use Rattle.spec.specs.Turn.{home_of, entry_of, changed_at, found_moment, turn}
use Rattle.spec.specs.Run.{stage_of, idle, act, step, start}
use Rattle.spec.specs.Proper.{PageOk}
use Rattle.laws.specs.Tools.{if_case, if-true, if_both, and_left, and_right}
use Rattle.laws.specs.Turns.Prefix.{fit_32, in_begins}
use Rattle.laws.specs.Turns.Records.{found_in}
use Rattle.laws.specs.Turns.Rows.{moves_row}
use Rattle.laws.specs.Turns.Good.{Fine, Good}
use Rattle.laws.specs.Turns.Work.{Work}
use Rattle.laws.specs.Turns.SplitPlan.{goes_new}
use Rattle.laws.specs.Turns.Does.{Coherent}
use Rattle.laws.specs.Turns.Coherent.{i_does}
use Rattle.laws.specs.Turns.Settled.{Settled}
use Rattle.laws.specs.Turns.Reads.{reading}
use Rattle.laws.specs.Turns.Depths.{plan_most}
use Rattle.laws.specs.Turns.Writes.{BeginsAt, i_writes}
use Rattle.laws.specs.Turns.Followed.{Followed}
use Rattle.laws.specs.Turns.Rising.{left, Left, Rising, left_case}

-- a table of turn numbers, by entry and depth
abbrev pub Table : Type 0
Table = ℕ → ℕ → ℕ

-- the table has the turn of each change from a page whose pattern still begins the entry
pub record Slots (slot : Table) (s : State) : Type 0 where
  pub turn
      : (e x : ℕ)
      → Left s e x
      → BeginsAt s.file (page_at s.file x) e
      → slot e (page_at s.file x).depth ≡ changed_at s.changes e x

-- the table after a turn of an operation at this stage: where entry j is written, from page x, the number at j and the depth of x is this turn's
unfoldable pub slot_part : State → ℕ → Part → Table → Table
slot_part s x (WriteNew i) slot e d = slot e d
slot_part s x (WriteEntry j) slot e d = if (eqb e j && eqb d (page_at s.file x).depth) s.now (slot e d)
slot_part s x UnlockNew slot e d = slot e d

unfoldable pub slot_after : State → Stage → Table → Table
slot_after s NotBegun slot = slot
slot_after s (ReadPage x) slot = slot
slot_after s (Reread x t) slot = slot
slot_after s (Lock x) slot = slot
slot_after s (Held x t) slot = slot
slot_after s (Split x b n q) slot = slot_part s x q slot
slot_after s Done slot = slot

slot_other
    : (s : State) (st : Stage) (slot : Table) (e d : ℕ)
    → ((x b n : ℕ) → st ≡ Split x b n (WriteEntry e) → d ≡ (page_at s.file x).depth → ⊥)
    → slot_after s st slot e d ≡ slot e d
unfolding slot_after slot_part
slot_other s NotBegun slot e d h = refl
slot_other s (ReadPage x) slot e d h = refl
slot_other s (Reread x t) slot e d h = refl
slot_other s (Lock x) slot e d h = refl
slot_other s (Held x t) slot e d h = refl
slot_other s (Split x b n (WriteNew i)) slot e d h = refl
slot_other s (Split x b n (WriteEntry j)) slot e d h =
    if_case (λ t. t ≡ slot e d)
    (λ u.
    let q : e ≡ j = eqb-true e j (and_left (eqb e j) _ u) in
    absurd (h x b n (rw q) (eqb-true d _ (and_right (eqb e j) _ u))))
    (λ u. refl)
slot_other s (Split x b n UnlockNew) slot e d h = refl
slot_other s Done slot e d h = refl

slot_own
    : (s : State) (st : Stage) (slot : Table) (e x b n : ℕ)
    → st ≡ Split x b n (WriteEntry e)
    → slot_after s st slot e (page_at s.file x).depth ≡ s.now
unfolding slot_after slot_part
slot_own s st slot e x b n z =
    let d = (page_at s.file x).depth in
    rw z (if-true _ _ (rw (eq-eqb e e refl) (eq-eqb d d refl)))

slot_idle : (s : State) (st : Stage) (slot : Table) (e d : ℕ) → idle s.locks st ≡ true → slot_after s st slot e d ≡ slot e d
unfolding idle
slot_idle s st slot e d u = slot_other s st slot e d (λ x b n z v. false≢true (rw z at u))

-- a turn of operation i
module _ (ops : List Op) (s : State) (i : ℕ) (slot : Table)
    (good : Good ops s)
    (coherent : Coherent ops s)
    (settled : Settled ops s)
    (r : Rising s)
    (h : Slots slot s)
  where
    abbrev m : Move
    m = turn s (get_or ops i no_op) (stage_of s i)

    named : (e x b n : ℕ) → stage_of s i ≡ Split x b n (WriteEntry e) → entry_at s.file e ≡ x
    named e x b n q = let w : Work s.file (get_or ops i no_op) (Split x b n (WriteEntry e)) = rw q at (coherent.work i) in w.1.1

    act_slots : i < length s.rows → Slots (slot_after s (stage_of s i) slot) (act s i m)
    act_slots lt =
        record {
          turn = λ e x k b.
              ⊎_elim
              (λ a.
              let z = r.deeper e x a.left a.begun in
              rw (a.depth, a.turn)
              (slot_other s (stage_of s i) slot e (page_at s.file x).depth
              (λ y c n q v. let w = ap (λ p. (page_at s.file p).depth) (named e y c n q) in omega arith)
              ∙ h.turn e x a.left a.begun))
              (λ a. rw (a.depth, a.turn) (slot_own s (stage_of s i) slot e x _ _ a.stage.2))
              (left_case ops s i m good coherent (i_does ops s i good coherent) (i_writes ops s i good coherent settled) lt r e x k b);
        }

    pub step_slots : Slots (slot_after s (stage_of s i) slot) (step ops s i)
    unfolding step
    step_slots =
        if_case (Slots (slot_after s (stage_of s i) slot))
        (λ u. record { turn = λ e x k b. slot_idle s (stage_of s i) slot e _ u ∙ h.turn e x k b })
        (λ u. act_slots (moves_row s i u))

-- no entry has been changed: any table will do
pub start_slots : (slot : Table) (f : File) (m : ℕ) → Slots slot (start f m)
unfolding start left
start_slots slot f m = record { turn = λ e x k. absurd (false≢true k) }

-- only the numbers of the directory's entries, at depths below the directory's, matter
pub slots_same
    : (slot slot' : Table) (s : State)
    → ((x : ℕ) → PageOk s.file.g s.file.c (page_at s.file x))
    → Rising s
    → ((e d : ℕ) → e < 2 ^ s.file.g → d < s.file.g → slot' e d ≡ slot e d)
    → Slots slot s
    → Slots slot' s
slots_same slot slot' s ok r a h =
    record {
      turn = λ e x k b.
          let z = r.deeper e x k b in
          a e _ (r.within e x k) (omega (arith, (ok (entry_at s.file e)).deep)) ∙ h.turn e x k b;
    }

-- a search that finds its call in page x
module _ (ops : List Op) (s : State) (i x : ℕ) (r : Rec) (slot : Table)
    (good : Good ops s)
    (coherent : Coherent ops s)
    (up : Rising s)
    (follows : Followed ops s)
    (h : Slots slot s)
    (reads : stage_of s i ≡ ReadPage x)
    (found : find_in (page_at s.file x).records (get_or ops i no_op).call ≡ Some r)
  where
    abbrev f : File
    f = s.file

    abbrev op : Op
    op = get_or ops i no_op

    begun : BeginsAt f (page_at f x) (home_of f op)
    unfolding home_of
    begun =
        in_begins f.g (page_at f x) op.call (coherent.pages x).deep (fit_32 f good.fit)
        (found_in (page_at f x) op.call r (coherent.pages x).homed found)

    -- where its entry names another page, the turn on which the entry was changed from page x is in the table, at a depth below the directory's
    pub found_slot
        : (entry_of f op ≡ x → ⊥)
        → (changed_at s.changes (home_of f op) x ≡ slot (home_of f op) (page_at f x).depth) × ((page_at f x).depth < f.g)
    unfolding entry_of
    found_slot n =
        ⊎_elim (λ q. absurd (n q))
        (λ q.
        let z = up.deeper _ x q begun in
        (sym (h.turn _ x q begun), omega (arith, (coherent.pages (entry_at f (home_of f op))).deep)))
        (follows.page i x (rw reads reading))

    -- so its moment is this turn's number, or the table's
    pub found-moment : found_moment s op x ≡ if (eqb (entry_of f op) x) s.now (slot (home_of f op) (page_at f x).depth)
    unfolding found_moment
    found-moment = if_both (λ u v. u ≡ v) (λ e. refl) (λ e. (found_slot (eqb-false _ _ e)).0)

-- the depth of a page that an entry is to leave is below the directory's
pub entry_slot
    : (ops : List Op) (s : State) (i x b n j : ℕ)
    → Good ops s
    → Coherent ops s
    → stage_of s i ≡ Split x b n (WriteEntry j)
    → (page_at s.file x).depth < s.file.g
entry_slot ops s i x b n j good coherent e =
    let fi : Fine s.file (get_or ops i no_op) (Split x b n (WriteEntry j)) = rw e at (good.fine i) in
    let w : Work s.file (get_or ops i no_op) (Split x b n (WriteEntry j)) = rw e at (coherent.work i) in
    let o = goes_new s.file (get_or ops i no_op) x good.fit (coherent.pages x) w.0 b n j fi.0.count fi.1 in
    let most = plan_most s.file (get_or ops i no_op) x good.fit (coherent.pages x) w.0 in
    omega (arith, o.1, fi.0.count)
