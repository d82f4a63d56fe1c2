-- Entries only rise: an entry that is changed comes to name a higher and deeper page, so it never names again a page that it left. And of a
-- page that an entry left, as long as its pattern begins the entry: it is less deep than the page that the entry names now.
use Rattle.std.specs.Prelude.{ℕ, zero, suc, ◌+◌, ◌-◌, ◌^◌, ◌<◌, ◌≤◌, ◌≡◌, refl, ◌⊎◌, List, [], ◌∷◌, Bool, true, false, ◌&&◌, ◌||◌, length, get_or, eqb, Option, None, Some}
use Rattle.std.proofs.Math.Path.{sym}
use Rattle.std.proofs.Common.{◌∙◌, arith, le_refl, get_or-set_same, get_or-set_other, eqb-true, eq-eqb}
use Rattle.std.proofs.Math.Logic.{inl, inr, ⊎_elim, by_cases}
use Rattle.std.proofs.lemmas.Bool.{false≢true}
use Rattle.std.proofs.Math.Decide.{ℕ_discrete, dec_lt}
use Rattle.std.proofs.Math.Seq.{set_out}
use Rattle.spec.specs.declared.Op.{Op}
use Rattle.spec.specs.declared.Part.TheVariants.{WriteEntry}
use Rattle.spec.specs.declared.Stage.{Stage}
use Rattle.spec.specs.declared.Stage.TheVariants.{Split}
use Rattle.spec.specs.File.{File, zero_page, page_at, entry_at}
use Rattle.spec.specs.Job.{Job, no_op}
use Rattle.spec.specs.State.{Change, State, PageWrite, EntryWrite, Move}
use Rattle.spec.specs.Turn.{changed_at}
use Rattle.spec.specs.Run.{table_after, directory_after, changes_after, file_after, row_of, stage_of, tick, act, step, start}
use Rattle.spec.specs.Proper.{Fit, FileOk}
use Rattle.spec.specs.Claims.{state_at}
use Rattle.laws.specs.Tools.{if-true, if-false}
use Rattle.laws.specs.Turns.Rows.{stage-after, step_case}
use Rattle.laws.specs.Turns.Good.{Good}
use Rattle.laws.specs.Turns.Does.{Coherent, Unreached, Does}
use Rattle.laws.specs.Turns.Coherent.{i_does}
use Rattle.laws.specs.Turns.Settled.{Settled}
use Rattle.laws.specs.Turns.Reads.{unreached_entry}
use Rattle.laws.specs.Turns.States.{who, state_at-suc, state_at-zero}
use Rattle.laws.specs.Turns.History.{new_pages}
use Rattle.laws.specs.Turns.Whole.{whole}
use Rattle.laws.specs.Turns.Writes.{BeginsAt, PageAfter, same_page_lem, WritesEntry, no_entry, one_entry, WritesPage, Writes, i_writes}

-- entry e was once changed from page x
unfoldable pub left : List Change → ℕ → ℕ → Bool
left [] e x = false
left (h ∷ hs) e x = (eqb h.entry e && eqb h.from x) || left hs e x

abbrev pub Left : State → ℕ → ℕ → Type 0
Left s e x = left s.changes e x ≡ true

-- what the history says of entry e and page x, after the turn, is what it said
abbrev SameHistory : State → List Change → ℕ → ℕ → Type 0
SameHistory s c e x = (left c e x ≡ left s.changes e x) × (changed_at c e x ≡ changed_at s.changes e x)

-- Entry e after a turn, where d is the directory and c the history: it is not written
pub record Stays (s : State) (e : ℕ) (d : List ℕ) (c : List Change) : Type 0 where
  pub names : get_or d e 0 ≡ entry_at s.file e
  pub others : (x : ℕ) → SameHistory s c e x

-- or it is, by an operation at stage st
pub record Goes (s : State) (e : ℕ) (st : Stage) (d : List ℕ) (c : List Change) : Type 0 where
  pub stage : (b : ℕ) × (n : ℕ) × (st ≡ Split (entry_at s.file e) b n (WriteEntry e))
  pub within : e < 2 ^ s.file.g
  pub up : entry_at s.file e < get_or d e 0
  pub deeper : (page_at s.file (entry_at s.file e)).depth < (page_at s.file (get_or d e 0)).depth
  pub gone : left c e (entry_at s.file e) ≡ true
  pub turn : changed_at c e (entry_at s.file e) ≡ s.now
  pub others : (x : ℕ) → (x ≡ entry_at s.file e → ⊥) → SameHistory s c e x

-- a change of another entry, or from another page; and one of this entry, from this page
change_other
    : (h : Change) (hs : List Change) (e x : ℕ)
    → (h.entry ≡ e → h.from ≡ x → ⊥)
    → (left (h ∷ hs) e x ≡ left hs e x) × (changed_at (h ∷ hs) e x ≡ changed_at hs e x)
unfolding left changed_at
change_other h hs e x n =
    let t = both (eqb h.entry e) (eqb h.from x) (λ a b. n (eqb-true _ _ a) (eqb-true _ _ b)) in
    (rw t, if-false _ _ t)
  where
    both : (a b : Bool) → (a ≡ true → b ≡ true → ⊥) → (a && b) ≡ false
    both true true k = absurd (k refl refl)
    both true false k = refl
    both false b k = refl

change_own
    : (h : Change) (hs : List Change) (e x : ℕ)
    → h.entry ≡ e
    → h.from ≡ x
    → (left (h ∷ hs) e x ≡ true) × (changed_at (h ∷ hs) e x ≡ h.turn)
unfolding left changed_at
change_own h hs e x a b =
    let t : (eqb h.entry e && eqb h.from x) ≡ true = rw (eq-eqb h.entry e a) (eq-eqb _ _ b) in
    (rw t, if-true _ _ t)

pub entry-after
    : (s : State) (e : ℕ) (st : Stage) (w : Option EntryWrite)
    → Fit s.file
    → WritesEntry s.file st w
    → Stays s e (directory_after w s.file.directory) (changes_after w s)
    ⊎ Goes s e st (directory_after w s.file.directory) (changes_after w s)
unfolding directory_after changes_after entry_at
entry-after s e st w fit no_entry = inl (record { names = refl; others = λ x. (refl, refl) })
entry-after s e st w fit (one_entry {x} {b} {n} {j} {y} at l u d) =
    by_cases (ℕ_discrete e j)
    (λ (q : e ≡ j).
    let own = change_own c s.changes j (entry_at s.file j) refl refl in
    rw q
    (inr
    (record {
      stage = (b, n, rw at);
      within = l;
      up = rw (at, get_or-set_same s.file.directory j y 0 lt) u;
      deeper = rw (at, get_or-set_same s.file.directory j y 0 lt) d;
      gone = own.0;
      turn = own.1;
      others = λ z k. change_other c s.changes j z (λ a v. k (sym v));
    })))
    (λ q.
    inl
    (record {
      names = get_or-set_other s.file.directory j e y 0 q;
      others = λ z. change_other c s.changes e z (λ a v. q (sym a));
    }))
  where
    c : Change
    c = record { turn = s.now; entry = j; from = entry_at s.file j }

    lt : j < length s.file.directory
    lt = omega (arith, fit.size)

-- page x after a turn, where it is no page of a split that no entry names yet
pub page-after
    : (f : File) (st : Stage) (w : Option PageWrite) (x : ℕ)
    → WritesPage f st w
    → (Unreached st x → ⊥)
    → PageAfter f x (get_or (table_after w f.table) x zero_page)
unfolding table_after page_at
page-after f st None x h n = same_page_lem f x _ refl refl
page-after f st (Some w) x h n =
    by_cases (ℕ_discrete x w.number)
    (λ (q : x ≡ w.number).
    by_cases (dec_lt w.number (length f.table))
    (λ l.
    rw (q, get_or-set_same f.table w.number w.page zero_page l)
    (⊎_elim (λ u. absurd (n (rw q u))) (λ v. v) h))
    (λ l. rw (set_out f.table w.number w.page (omega arith)) (same_page_lem f x _ refl refl)))
    (λ q. rw (get_or-set_other f.table w.number x w.page zero_page q) (same_page_lem f x _ refl refl))

-- what is so of every entry and every page that it left: the entry names a higher page; if the page's pattern still begins the entry, a deeper
-- one; and the page is none of a split that no entry names yet
pub record Rising (s : State) : Type 0 where
  pub within : (e x : ℕ) → Left s e x → e < 2 ^ s.file.g
  pub higher : (e x : ℕ) → Left s e x → x < entry_at s.file e
  pub deeper
      : (e x : ℕ)
      → Left s e x
      → BeginsAt s.file (page_at s.file x) e
      → (page_at s.file x).depth < (page_at s.file (entry_at s.file e)).depth
  pub reached : (i e x : ℕ) → Left s e x → Unreached (stage_of s i) x → ⊥

-- A page x that entry e has left, after a turn, and whose pattern begins e then: e had left it before the turn, or left it on this turn, from
-- stage st. (f' is the file then, and c the history)
pub record LeftBefore (s : State) (f' : File) (c : List Change) (e x : ℕ) : Type 0 where
  pub left : Left s e x
  pub begun : BeginsAt s.file (page_at s.file x) e
  pub depth : (page_at f' x).depth ≡ (page_at s.file x).depth
  pub turn : changed_at c e x ≡ changed_at s.changes e x

pub record LeftNow (s : State) (st : Stage) (f' : File) (c : List Change) (e x : ℕ) : Type 0 where
  pub stage : (b : ℕ) × (n : ℕ) × (st ≡ Split x b n (WriteEntry e))
  pub depth : (page_at f' x).depth ≡ (page_at s.file x).depth
  pub turn : changed_at c e x ≡ s.now
  pub deeper : (page_at s.file x).depth < (page_at f' (entry_at f' e)).depth

module _ (ops : List Op) (s : State) (i : ℕ) (m : Move)
    (good : Good ops s)
    (coherent : Coherent ops s)
    (d : Does s (get_or ops i no_op) (stage_of s i) m)
    (w : Writes s.file (stage_of s i) m)
  where
    abbrev f : File
    f = s.file

    abbrev f' : File
    f' = file_after m f

    entry : (e : ℕ)
        → Stays s e (directory_after m.entry f.directory) (changes_after m.entry s)
        ⊎ Goes s e (stage_of s i) (directory_after m.entry f.directory) (changes_after m.entry s)
    entry e = entry-after s e (stage_of s i) m.entry good.fit w.entry

    page : (x : ℕ) → (Unreached (stage_of s i) x → ⊥) → PageAfter f x (page_at f' x)
    unfolding page_at
    page x n = page-after f (stage_of s i) m.page x w.page n

    -- no entry names a page of a split that is not reached yet
    named : (j e x : ℕ) → entry_at f e ≡ x → Unreached (stage_of s j) x → ⊥
    named j e x z u = unreached_entry f _ e (coherent.work j) u z

    in_use : (e : ℕ) → e < 2 ^ f.g → entry_at f e ≤ f.used
    unfolding entry_at
    in_use e l = (good.fit.entries e l).1

    -- a page that entry e has left, after the turn: it had left it, or has just done so
    was_left : (e x : ℕ) → Left (act s i m) e x → Left s e x ⊎ ((x ≡ entry_at f e) × (e < 2 ^ f.g))
    was_left e x k =
        ⊎_elim (λ a. inl (sym (a.others x).0 ∙ k))
        (λ a. by_cases (ℕ_discrete x (entry_at f e)) (λ q. inr (q, a.within)) (λ q. inl (sym (a.others x q).0 ∙ k)))
        (entry e)

    -- where the turn writes an entry it writes no page
    page-kept : (e x : ℕ) → entry_at f e < entry_at f' e → page_at f' x ≡ page_at f x
    unfolding page_at entry_at table_after directory_after
    page-kept e x l =
        ⊎_elim (λ (z : m.entry ≡ None). let q : entry_at f' e ≡ entry_at f e = rw (z, directory_after) in absurd (omega arith))
        (λ (z : m.page ≡ None). rw (z, table_after))
        d.single

    -- the page that an entry names is as deep as the one that it named, or deeper
    pub entry-deep : (e : ℕ) → (page_at f (entry_at f e)).depth ≤ (page_at f' (entry_at f' e)).depth
    unfolding entry_at
    entry-deep e =
        ⊎_elim (λ a. rw a.names (page (entry_at f e) (named i e _ refl)).deep)
        (λ a. rw (page-kept e (entry_at f' e) a.up) (omega (arith, a.deeper)))
        (entry e)

    -- and it is deeper, where the entry names another page
    pub entry_deeper
        : (e : ℕ)
        → (entry_at f' e ≡ entry_at f e → ⊥)
        → (page_at f (entry_at f e)).depth < (page_at f' (entry_at f' e)).depth
    unfolding entry_at
    entry_deeper e n =
        ⊎_elim (λ a. absurd (n a.names)) (λ a. rw (page-kept e (entry_at f' e) a.up) a.deeper) (entry e)

    module _ (lt : i < length s.rows) (h : Rising s) where
      higher_after : (e x : ℕ) → Left (act s i m) e x → x < entry_at f' e
      unfolding entry_at
      higher_after e x k =
          ⊎_elim (λ a. let z = h.higher e x (sym (a.others x).0 ∙ k) in omega (arith, a.names))
          (λ a. ⊎_elim (λ l. let z = h.higher e x l in omega (arith, a.up)) (λ l. omega (arith, a.up)) (was_left e x k))
          (entry e)

      pub left_case
          : (e x : ℕ)
          → Left (act s i m) e x
          → BeginsAt f (page_at f' x) e
          → LeftBefore s f' (act s i m).changes e x ⊎ LeftNow s (stage_of s i) f' (act s i m).changes e x
      unfolding entry_at
      left_case e x k b =
          ⊎_elim
          (λ a.
          let l : Left s e x = sym (a.others x).0 ∙ k in
          let u = h.higher e x l in
          let px = (page x (h.reached i e x l)).begun e (h.within e x l) b (λ z. omega arith) in
          inl (record { left = l; begun = px.1; depth = px.0; turn = (a.others x).1 }))
          (λ a.
          let pg : (y : ℕ) → page_at f' y ≡ page_at f y = λ y. page-kept e y a.up in
          let px : (page_at f' x).depth ≡ (page_at f x).depth = rw (pg x) in
          by_cases (ℕ_discrete x (entry_at f e))
          (λ (q : x ≡ entry_at f e).
          inr (record { stage = rw q a.stage; depth = px; turn = rw q a.turn; deeper = rw (pg (entry_at f' e), q) a.deeper }))
          (λ q. inl (record { left = sym (a.others x q).0 ∙ k; begun = rw (pg x) at b; depth = px; turn = (a.others x q).1 })))
          (entry e)

      deeper_after
          : (e x : ℕ)
          → Left (act s i m) e x
          → BeginsAt f (page_at f' x) e
          → (page_at f' x).depth < (page_at f' (entry_at f' e)).depth
      deeper_after e x k b =
          ⊎_elim (λ a. let z = h.deeper e x a.left a.begun in let y = entry-deep e in omega (arith, a.depth))
          (λ a. omega (arith, a.depth, a.deeper))
          (left_case e x k b)

      reached-after : (j e x : ℕ) → Left (act s i m) e x → Unreached (stage_of (act s i m) j) x → ⊥
      reached-after j e x k =
          stage-after s i m lt (λ j st. Unreached st x → ⊥)
          (λ u. ⊎_elim (λ v. old i v) (λ v. ⊎_elim (λ a. let z = h.higher e x a in let y = in_use e (h.within e x a) in omega arith)
          (λ a. let y = in_use e a.1 in omega (arith, a.0)) (was_left e x k)) (new_pages s _ (stage_of s i) d.starts u))
          (λ j n. old j)
          j
        where
          old : (j : ℕ) → Unreached (stage_of s j) x → ⊥
          old j u = ⊎_elim (λ a. h.reached j e x a u) (λ a. named j e x (sym a.0) u) (was_left e x k)

      act-rising : Rising (act s i m)
      act-rising =
          record {
            within = λ e x k. ⊎_elim (λ a. h.within e x a) (λ a. a.1) (was_left e x k);
            higher = higher_after;
            deeper = deeper_after;
            reached = reached-after;
          }

tick-rising : (s : State) → Rising s → Rising (tick s)
unfolding stage_of row_of
tick-rising s h = record { within = h.within; higher = h.higher; deeper = h.deeper; reached = h.reached }

step-rising : (ops : List Op) (s : State) (i : ℕ) → Good ops s → Coherent ops s → Settled ops s → Rising s → Rising (step ops s i)
step-rising ops s i good coherent settled h =
    step_case Rising ops s i (tick-rising s h)
    (λ lt e. act-rising ops s i _ good coherent (i_does ops s i good coherent) (i_writes ops s i good coherent settled) lt h)

start-rising : (f : File) (m : ℕ) → Rising (start f m)
unfolding start left
start-rising f m =
    record {
      within = λ e x k. absurd (false≢true k);
      higher = λ e x k. absurd (false≢true k);
      deeper = λ e x k. absurd (false≢true k);
      reached = λ i e x k. absurd (false≢true k);
    }

pub rising : (j : Job) → FileOk j.file → (t : ℕ) → t ≤ length j.turns → Rising (state_at j t)
rising j ok zero l = rw (state_at-zero j) (start-rising _ _)
rising j ok (suc t) l =
    let w = whole j ok t (omega arith) in
    rw (state_at-suc j t l) (step-rising j.ops _ (who j t) w.good w.coherent w.settled (rising j ok t (omega arith)))

-- entries only rise
step-entry
    : (ops : List Op) (s : State) (i : ℕ)
    → Good ops s
    → Coherent ops s
    → Settled ops s
    → (e : ℕ)
    → entry_at s.file e ≤ entry_at (step ops s i).file e
unfolding entry_at
step-entry ops s i good coherent settled e =
    step_case (λ t. entry_at s.file e ≤ entry_at t.file e) ops s i (le_refl _)
    (λ lt z.
    ⊎_elim (λ a. omega (arith, a.names)) (λ a. omega (arith, a.up))
    (entry-after s e (stage_of s i) _ good.fit (i_writes ops s i good coherent settled).entry))

rise_for
    : (j : Job)
    → FileOk j.file
    → (t d e : ℕ)
    → t + d ≤ length j.turns
    → entry_at (state_at j t).file e ≤ entry_at (state_at j (t + d)).file e
rise_for j ok t zero e l = let z : t + zero ≡ t = omega arith in rw z (le_refl _)
rise_for j ok t (suc d) e l =
    let w = whole j ok (t + d) (omega arith) in
    let z : t + suc d ≡ suc (t + d) = omega arith in
    let ih = rise_for j ok t d e (omega arith) in
    let up = step-entry j.ops _ (who j (t + d)) w.good w.coherent w.settled e in
    rw (z, state_at-suc j (t + d) (omega arith)) (omega arith)

pub entries-rise
    : (j : Job)
    → FileOk j.file
    → (t u e : ℕ)
    → t ≤ u
    → u ≤ length j.turns
    → entry_at (state_at j t).file e ≤ entry_at (state_at j u).file e
entries-rise j ok t u e l k =
    let z : t + (u - t) ≡ u = omega arith in
    rw z at (rise_for j ok t (u - t) e (omega arith))
