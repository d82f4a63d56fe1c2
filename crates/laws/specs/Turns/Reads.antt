-- What a search that has read its entry, or its page, may rely on, over the turns of others and its own: the page that it read is its entry's,
-- or what it finds there was held when the entry was changed.
use Rattle.std.specs.Prelude.{ℕ, suc, ◌<◌, ◌≤◌, ◌≡◌, ◌⊎◌, length, get_or, eqb, Option, None, Some}
use Rattle.std.proofs.Math.Path.{refl}
use Rattle.std.proofs.Common.{sym, ap, ◌∙◌, get_or-set_other}
use Rattle.std.proofs.Math.Logic.{inl, inr, ⊎_elim, by_cases}
use mathlib.Core.List.{List}
use native.Mathlib.Omega.{arith}
use Rattle.std.proofs.Math.Decide.{ℕ_discrete, dec_lt}
use Rattle.std.proofs.Math.Seq.{get_or-set_same, set_out}
use borrow.Author.Tests.{eqb-true, eq-eqb}
use Rattle.spec.specs.declared.Rec.{Rec}
use Rattle.spec.specs.declared.Op.{Op}
use Rattle.spec.specs.declared.Kind.TheVariants.{Search}
use Rattle.spec.specs.declared.Stage.{Stage}
use Rattle.spec.specs.declared.Stage.TheVariants.{NotBegun, ReadPage, Reread, Lock, Held, Split, Done}
use Rattle.spec.specs.Key.{index}
use Rattle.spec.specs.File.{Page, File, zero_page, page_at, entry_at, find_in}
use Rattle.spec.specs.Job.{no_op}
use Rattle.spec.specs.State.{Change, State, Answer, PageWrite, EntryWrite, Move}
use Rattle.spec.specs.Turn.{home_of, changed_at}
use Rattle.spec.specs.Run.{table_after, directory_after, changes_after, file_after, stage_of, act}
use Rattle.laws.specs.Tools.{if_case, if-true, and_left, and_right}
use Rattle.laws.specs.Turns.Work.{Work}
use Rattle.laws.specs.Turns.Lookup.{lookup, lookup_at}
use Rattle.laws.specs.Turns.Says.{says_change}
use Rattle.laws.specs.Turns.Does.{Own, quiet, sees, sees_none, says, Coherent, Unreached, fresh, Starts, Sub, Rises, Does}

-- H t k: what the file held of call k before turn t. A record was seen at t: it was held before turn t and after it, and t is not before lo
module _ (H : ℕ → ℕ → Option Rec) (lo : ℕ) where
  abbrev pub Seen : State → Op → Rec → ℕ → Type 0
  Seen s op r t = (t < s.now) × (H t op.call ≡ Some r) × (H (suc t) op.call ≡ Some r) × (lo ≤ t)

  -- what a search that has read its entry, or its page, may rely on
  abbrev pub Reads : State → Op → Stage → Type 0
  Reads s op NotBegun = Unit {0}
  Reads s op (ReadPage x) =
      (x ≤ entry_at s.file (home_of s.file op))
      × ((r : Rec)
      → find_in (page_at s.file x).records op.call ≡ Some r
      → (entry_at s.file (home_of s.file op) ≡ x → ⊥)
      → Seen s op r (changed_at s.changes (home_of s.file op) x))
      × (lo ≤ s.now)
  Reads s op (Reread x t) =
      (x ≤ entry_at s.file (home_of s.file op))
      × (t < s.now)
      × (entry_at s.file (home_of s.file op) ≡ x → (H t op.call ≡ None) × (H (suc t) op.call ≡ None))
      × (lo ≤ t)
  Reads s op (Lock x) = Unit {0}
  Reads s op (Held x t) = Unit {0}
  Reads s op (Split x b n q) = Unit {0}
  Reads s op Done = Unit {0}

-- p is the page that a search has read, or is to read
pub data Reading : Stage → ℕ → Type 0 where
  reading : {x : ℕ} → Reading (ReadPage x) x
  rereading : {x t : ℕ} → Reading (Reread x t) x

-- what a move does to entry e and its history
module _ (s : State) (op : Op) (e : ℕ) where
  -- the entry is written now: it comes to name a higher page, and the page that it named does not hold the operation's call
  record Changed (d : List ℕ) (c : List Change) : Type 0 where
    up : entry_at s.file e < get_or d e 0
    turn : changed_at c e (entry_at s.file e) ≡ s.now
    without : find_in (page_at s.file (entry_at s.file e)).records op.call ≡ None

  record Entry (d : List ℕ) (c : List Change) : Type 0 where
    later : (x : ℕ) → (entry_at s.file e ≡ x → ⊥) → changed_at c e x ≡ changed_at s.changes e x
    step : (get_or d e 0 ≡ entry_at s.file e) ⊎ Changed d c

  entry-step : (w : Option EntryWrite) → Rises s.file op w → Entry (directory_after w s.file.directory) (changes_after w s)
  unfolding directory_after changes_after changed_at entry_at
  entry-step None h = record { later = λ x n. refl; step = inl refl }
  entry-step (Some w) h =
      record {
        later = λ x n.
            if_case (λ t. t ≡ changed_at s.changes e x)
            (λ u.
            let q : w.entry ≡ e = eqb-true _ _ (and_left (eqb w.entry e) _ u) in
            absurd (n (ap (entry_at s.file) (sym q) ∙ eqb-true _ _ (and_right (eqb w.entry e) _ u))))
            (λ u. refl);
        step =
            by_cases (ℕ_discrete e w.entry)
            (λ (q : e ≡ w.entry).
            inr
            (record {
              up = rw (q, get_or-set_same s.file.directory w.entry w.number 0 h.2) h.0;
              turn = if-true _ _ (rw (eq-eqb w.entry e (sym q)) (eq-eqb _ _ (ap (entry_at s.file) (sym q))));
              without = rw q h.1;
            }))
            (λ q. inl (get_or-set_other s.file.directory w.entry e w.number 0 q));
      }

-- what is found in a page after a move, of a call whose entry names another, was found there before
sub-page
    : (f : File) (st : Stage) (w : Option PageWrite) (x k : ℕ) (r : Rec)
    → Sub f st w
    → (Unreached st x → ⊥)
    → (entry_at f (index f.g k) ≡ x → ⊥)
    → find_in (get_or (table_after w f.table) x zero_page).records k ≡ Some r
    → find_in (page_at f x).records k ≡ Some r
unfolding table_after page_at
sub-page f st None x k r h u n e = e
sub-page f st (Some w) x k r h u n e =
    by_cases (ℕ_discrete x w.number)
    (λ (q : x ≡ w.number).
    by_cases (dec_lt w.number (length f.table))
    (λ l.
    let e' : find_in w.page.records k ≡ Some r = rw (q, get_or-set_same f.table w.number w.page zero_page l) at e in
    ⊎_elim (λ a. absurd (u (rw q a))) (λ a. rw q (a k r e' (λ z. n (z ∙ sym q)))) h)
    (λ l. rw (set_out f.table w.number w.page (omega arith)) at e))
    (λ q. rw (get_or-set_other f.table w.number x w.page zero_page q) at e)

-- a search changes nothing
own_search : {s : State} {st : Stage} {op : Op} {a b : Option Rec} {y : ℕ} {z : Answer} → op.kind ≡ Search → Own s st op a b y z → b ≡ a
own_search k (quiet e) = e
own_search k (sees x r h i j e) = e
own_search k (sees_none x t h i j e) = e
own_search k (says n u w y) = ⊎_elim (λ e. e) (λ e. absurd (e.1 k)) (says_change y)

-- no entry names a page of a split that is not reached yet
pub unreached_entry : (f : File) (op : Op) {st : Stage} {p : ℕ} (e : ℕ) → Work f op st → Unreached st p → entry_at f e ≡ p → ⊥
unreached_entry f op e w (fresh sp) d = w.1.2 e (rw d sp)

clash
    : (f : File) (x y k k' : ℕ) (r : Rec)
    → find_in (page_at f y).records k' ≡ None
    → y ≡ x
    → k ≡ k'
    → find_in (page_at f x).records k ≡ Some r
    → ⊥
clash f x y k k' r a b c e = let z : ◌≡◌ {A = ℕ} 0 1 = cc in omega arith

dir_none : (d : List ℕ) (w : Option EntryWrite) (e : ℕ) → w ≡ None → get_or (directory_after w d) e 0 ≡ get_or d e 0
unfolding directory_after
dir_none d w e h = ap (λ v. get_or (directory_after v d) e 0) h

page-none : (t : List Page) (w : Option PageWrite) (x : ℕ) → w ≡ None → get_or (table_after w t) x zero_page ≡ get_or t x zero_page
unfolding table_after
page-none t w x h = ap (λ v. get_or (table_after v t) x zero_page) h

-- a search's reading, over a turn of some operation
module _ (H : ℕ → ℕ → Option Rec) (ops : List Op) (s : State) (i : ℕ) (m : Move)
    (before : (k : ℕ) → H s.now k ≡ lookup s.file k)
    (after : (k : ℕ) → H (suc s.now) k ≡ lookup (file_after m s.file) k)
    (d : Does s (get_or ops i no_op) (stage_of s i) m)
    (lo : ℕ)
  where
    abbrev f : File
    f = s.file

    entry : (e : ℕ) → Entry s (get_or ops i no_op) e (directory_after m.entry f.directory) (changes_after m.entry s)
    entry e = entry-step s (get_or ops i no_op) e m.entry d.rises

    rise : (e : ℕ) → entry_at f e ≤ entry_at (file_after m f) e
    unfolding entry_at
    rise e = ⊎_elim (λ q. omega arith) (λ q. omega arith) (entry e).step

    back : (e x : ℕ) → x ≤ entry_at f e → entry_at (file_after m f) e ≡ x → entry_at f e ≡ x
    unfolding entry_at
    back e x l h = ⊎_elim (λ q. omega arith) (λ q. absurd (omega arith)) (entry e).step

    seen_after
        : (op : Op) (x : ℕ)
        → (Unreached (stage_of s i) x → ⊥)
        → Reads H lo s op (ReadPage x)
        → (r : Rec)
        → find_in (page_at (file_after m f) x).records op.call ≡ Some r
        → (entry_at (file_after m f) (home_of f op) ≡ x → ⊥)
        → Seen H lo (act s i m) op r (changed_at (changes_after m.entry s) (home_of f op) x)
    unfolding home_of entry_at page_at
    seen_after op x u h r e n =
        by_cases (ℕ_discrete (entry_at f (home_of f op)) x) (λ z. now z (entry (home_of f op)).step d.single)
        (λ z.
        let c = h.1 r (sub-page f (stage_of s i) m.page x op.call r d.sub u z e) z in
        rw ((entry (home_of f op)).later x z) (omega arith, c.1, c.2, c.3))
      where
        c : List Change
        c = changes_after m.entry s

        -- the entry named page x up to now, and the page is not written
        now
            : entry_at f (home_of f op) ≡ x
            → (entry_at (file_after m f) (home_of f op) ≡ entry_at f (home_of f op))
            ⊎ Changed s (get_or ops i no_op) (home_of f op) (directory_after m.entry f.directory) c
            → (m.entry ≡ None) ⊎ (m.page ≡ None)
            → Seen H lo (act s i m) op r (changed_at c (home_of f op) x)
        now z (inl q) g = absurd (n (q ∙ z))
        now z (inr q) (inl g) = absurd (n (dir_none f.directory m.entry (home_of f op) g ∙ z))
        now z (inr q) (inr g) =
            let old : find_in (page_at f x).records op.call ≡ Some r = rw (page-none f.table m.page x g) at e in
            let held = lookup_at f op.call x z ∙ old in
            let stays = d.others op.call (λ w. clash f x _ op.call _ r q.without z w old) in
            let t : changed_at c (home_of f op) x ≡ s.now = rw z at q.turn in
            rw t (omega arith, before op.call ∙ held, after op.call ∙ stays ∙ held, h.2)

    page-after : (op : Op) (x : ℕ) → (Unreached (stage_of s i) x → ⊥) → Reads H lo s op (ReadPage x) → Reads H lo (act s i m) op (ReadPage x)
    unfolding home_of
    page-after op x u h = (let l = rise (home_of f op) in omega arith, seen_after op x u h, omega (arith, h.2))

    pub reads-after
        : (op : Op) (st : Stage)
        → ((p : ℕ) → Reading st p → Unreached (stage_of s i) p → ⊥)
        → Reads H lo s op st
        → Reads H lo (act s i m) op st
    unfolding home_of
    reads-after op NotBegun u h = tt
    reads-after op (ReadPage x) u h = page-after op x (u x reading) h
    reads-after op (Reread x t) u h = (let l = rise (home_of f op) in omega arith, omega arith, λ e. h.2 (back _ x h.0 e), h.3)
    reads-after op (Lock x) u h = tt
    reads-after op (Held x t) u h = tt
    reads-after op (Split x b n q) u h = tt
    reads-after op Done u h = tt

    -- the reading of the operation itself, where its turn has brought it to a search's stage
    pub own_reads
        : (to : Stage)
        → Coherent ops s
        → Reads H lo s (get_or ops i no_op) (stage_of s i)
        → Starts s (get_or ops i no_op) (stage_of s i) to
        → Work (file_after m f) (get_or ops i no_op) to
        → lo ≤ s.now
        → Reads H lo (act s i m) (get_or ops i no_op) to
    unfolding home_of
    own_reads NotBegun coherent h z w g = tt
    own_reads (ReadPage y) coherent h z w g =
        page-after (get_or ops i no_op) y (λ v. unreached_entry f _ _ (coherent.work i) v z) (omega arith, λ r e n. absurd (n z), g)
    own_reads (Reread x t) coherent h z w g =
        let h' : Reads H lo s (get_or ops i no_op) (ReadPage x) = rw z.0 at h in
        let l = rise (home_of f (get_or ops i no_op)) in (
          omega (arith, h'.0),
          omega (arith, z.1),
          λ e.
              let at = lookup_at f (get_or ops i no_op).call x (back _ x h'.0 e) ∙ z.2 in (
                rw z.1 (before _ ∙ at),
                rw z.1 (after _ ∙ own_search w d.own ∙ at),
              ),
          rw z.1 g,
        )
    own_reads (Lock x) coherent h z w g = tt
    own_reads (Held x t) coherent h z w g = tt
    own_reads (Split x b n q) coherent h z w g = tt
    own_reads Done coherent h z w g = tt
