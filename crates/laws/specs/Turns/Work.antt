-- What is known of the file while an operation is under way, by its stage: of its page, its plan and the entries. A move of another operation
-- leaves that as it is, since it leaves alone the pages that are held.
use Rattle.std.proofs.Math.Logic.Iff
use Rattle.std.specs.Prelude.{ℕ, suc, ◌+◌, ◌^◌, ◌<◌, ◌≤◌, ◌≡◌, ◌⊎◌, ◌↔◌, true, length, get_or, Option, None, Some}
use Rattle.std.proofs.Math.Path.{refl}
use Rattle.std.proofs.Common.{sym, ap, ◌∙◌, inl, inr, arith, get_or-set_same, get_or-set_other}
use Rattle.std.proofs.Math.Logic.{by_cases}
use Rattle.std.proofs.Math.Decide.{ℕ_discrete, dec_lt}
use Rattle.std.proofs.Math.Seq.{set_out}
use Rattle.spec.specs.declared.Rec.{Rec}
use Rattle.spec.specs.declared.Op.{Op}
use Rattle.spec.specs.declared.Kind.TheVariants.{Search, Insert, Delete}
use Rattle.spec.specs.declared.Task.{Task}
use Rattle.spec.specs.declared.Task.TheVariants.{Verify, Release, Decide, WritePage, WriteOld, Unlock}
use Rattle.spec.specs.declared.Part.{Part}
use Rattle.spec.specs.declared.Part.TheVariants.{WriteNew, WriteEntry, UnlockNew}
use Rattle.spec.specs.declared.Stage.{Stage}
use Rattle.spec.specs.declared.Stage.TheVariants.{NotBegun, ReadPage, Reread, Lock, Held, Split, Done}
use Rattle.spec.specs.File.{File, zero_page, page_at, entry_at, find_in}
use Rattle.spec.specs.Job.{strikes}
use Rattle.spec.specs.Split.{Grown, least_shared}
use Rattle.spec.specs.State.{EntryWrite, Move}
use Rattle.spec.specs.Turn.{home_of, plan_of, goes_to}
use Rattle.spec.specs.Run.{directory_after, file_after}
use Rattle.spec.specs.Proper.{In}
use Rattle.laws.specs.Turns.Ranges.{Span}
use Rattle.laws.specs.Turns.Locks.{Holds}
use Rattle.laws.specs.Turns.Plans.{plan_same, goes_same}
use Rattle.laws.specs.Turns.Good.{FinePart, Fine, MayPage, page_other}

-- an insert that splits page x: its call belongs there, is not there, and the depth suffices
pub record Plan (f : File) (op : Op) (x : ℕ) : Type 0 where
  pub kind : op.kind ≡ Insert
  pub here : In (page_at f x) op.call
  pub absent : find_in (page_at f x).records op.call ≡ None
  pub depth : least_shared (page_at f x).records op.call < f.g

-- the entries below j that still name x stay with it (`settled`); the call's own names x, if it stays or is not below j
pub record Moving (f : File) (op : Op) (x j : ℕ) : Type 0 where
  pub settled : (e : ℕ) → e < j → entry_at f e ≡ x → goes_to f op x 0 e ≡ 0
  pub stays : goes_to f op x 0 (home_of f op) ≡ 0 → entry_at f (home_of f op) ≡ x
  pub ahead : j ≤ home_of f op → entry_at f (home_of f op) ≡ x

-- the first n new pages of the split are written as planned
abbrev pub Written : File → Op → ℕ → ℕ → ℕ → Type 0
Written f op x b n = (m : ℕ) → m < n → page_at f (suc b + m) ≡ get_or (plan_of f op x).news m zero_page

-- what is known of an operation that holds page x; of one that splits it; of one at any stage
abbrev pub WorkTask : File → Op → ℕ → Task → Type 0
WorkTask f op x Verify = Unit {0}
WorkTask f op x (Release y) = Unit {0}
WorkTask f op x Decide = entry_at f (home_of f op) ≡ x
WorkTask f op x WritePage =
    (entry_at f (home_of f op) ≡ x)
    × (op.kind ≡ Insert → (find_in (page_at f x).records op.call ≡ None) × (length (page_at f x).records < f.c))
    × (op.kind ≡ Delete → (r : Rec) × (find_in (page_at f x).records op.call ≡ Some r) × (strikes op.charge r.charge ≡ true))
WorkTask f op x WriteOld = Plan f op x × Moving f op x (2 ^ f.g)
WorkTask f op x Unlock = Unit {0}

abbrev pub WorkPart : File → Op → ℕ → ℕ → ℕ → Part → Type 0
WorkPart f op x b n (WriteNew i) =
    (entry_at f (home_of f op) ≡ x)
    × ((m : ℕ) → suc m < i → page_at f (suc b + m) ≡ get_or (plan_of f op x).news m zero_page)
    × ((e : ℕ) → Span (suc b) n (entry_at f e) → ⊥)
WorkPart f op x b n (WriteEntry j) = Written f op x b n × (entry_at f j ≡ x) × (j < 2 ^ f.g) × Moving f op x j
WorkPart f op x b n UnlockNew = Written f op x b n × Moving f op x (2 ^ f.g)

abbrev pub Work : File → Op → Stage → Type 0
Work f op NotBegun = Unit {0}
Work f op (ReadPage x) = op.kind ≡ Search
Work f op (Reread x t) = op.kind ≡ Search
Work f op (Lock x) = Unit {0}
Work f op (Held x t) = WorkTask f op x t
Work f op (Split x b n q) = Plan f op x × WorkPart f op x b n q
Work f op Done = Unit {0}

-- a move that leaves alone the pages in H: their contents, and which entries name them
pub record Leaves (f : File) (m : Move) (H : ℕ → Type 0) : Type 0 where
  pub page : (p : ℕ) → H p → page_at (file_after m f) p ≡ page_at f p
  pub named : (e p : ℕ) → H p → entry_at f e ≡ p → entry_at (file_after m f) e ≡ p
  pub names : (e p : ℕ) → H p → entry_at (file_after m f) e ≡ p → entry_at f e ≡ p

-- what is known stays so after such a move
module _ (f : File) (m : Move) (op : Op) where
  pub plan_after : (x : ℕ) → page_at (file_after m f) x ≡ page_at f x → Plan f op x → Plan (file_after m f) op x
  plan_after x e h = record { kind = h.kind; here = rw e h.here; absent = rw e h.absent; depth = rw e h.depth }

  pub moving_after
      : (x j : ℕ)
      → page_at (file_after m f) x ≡ page_at f x
      → ((e : ℕ) → entry_at f e ≡ x → entry_at (file_after m f) e ≡ x)
      → ((e : ℕ) → entry_at (file_after m f) e ≡ x → entry_at f e ≡ x)
      → Moving f op x j
      → Moving (file_after m f) op x j
  unfolding home_of
  moving_after x j e c d h =
      record {
        settled = λ k l n. goes_same f m op x e 0 k ∙ h.settled k l (d k n);
        stays = λ z. c _ (h.stays (sym (goes_same f m op x e 0 _) ∙ z));
        ahead = λ l. c _ (h.ahead l);
      }

  task_after : (x : ℕ) (t : Task) → Leaves f m (λ p. p ≡ x) → WorkTask f op x t → WorkTask (file_after m f) op x t
  unfolding home_of
  task_after x Verify a h = tt
  task_after x (Release y) a h = tt
  task_after x Decide a h = a.named _ x refl h
  task_after x WritePage a h = (a.named _ x refl h.0, λ k. rw (a.page x refl) (h.1 k), λ k. rw (a.page x refl) (h.2 k))
  task_after x WriteOld a h = (
    plan_after x (a.page x refl) h.0,
    moving_after x _ (a.page x refl) (λ e. a.named e x refl) (λ e. a.names e x refl) h.1,
  )
  task_after x Unlock a h = tt

  written_after
      : (x b n k : ℕ)
      → Leaves f m (λ p. (p ≡ x) ⊎ Span (suc b) n p)
      → k < n
      → page_at f (suc b + k) ≡ get_or (plan_of f op x).news k zero_page
      → page_at (file_after m f) (suc b + k) ≡ get_or (plan_of (file_after m f) op x).news k zero_page
  written_after x b n k a l h =
      a.page (suc b + k) (inr (omega arith)) ∙ h
      ∙ ap (λ (t : Grown). get_or t.news k zero_page) (sym (plan_same f m op x (a.page x (inl refl))))

  part_after
      : (x b n : ℕ) (q : Part)
      → Leaves f m (λ p. (p ≡ x) ⊎ Span (suc b) n p)
      → FinePart f op x b n q
      → WorkPart f op x b n q
      → WorkPart (file_after m f) op x b n q
  unfolding home_of
  part_after x b n (WriteNew i) a z h = (
    a.named _ x (inl refl) h.0,
    λ k l. written_after x b n k a (omega arith) (h.1 k l),
    λ e w. h.2 e (rw (a.names e _ (inr w) refl) w),
  )
  part_after x b n (WriteEntry j) a z h = (
    λ k l. written_after x b n k a l (h.0 k l),
    a.named j x (inl refl) h.1,
    h.2,
    moving_after x j (a.page x (inl refl)) (λ e. a.named e x (inl refl)) (λ e. a.names e x (inl refl)) h.3,
  )
  part_after x b n UnlockNew a z h = (
    λ k l. written_after x b n k a l (h.0 k l),
    moving_after x _ (a.page x (inl refl)) (λ e. a.named e x (inl refl)) (λ e. a.names e x (inl refl)) h.1,
  )

  pub work-after : (st : Stage) → Leaves f m (Holds st) → Fine f op st → Work f op st → Work (file_after m f) op st
  work-after NotBegun a z h = tt
  work-after (ReadPage x) a z h = h
  work-after (Reread x t) a z h = h
  work-after (Lock x) a z h = tt
  work-after (Held x t) a z h = task_after x t a h
  work-after (Split x b n q) a z h = (plan_after x (a.page x (inl refl)) h.0, part_after x b n q a z.1 h.1)
  work-after Done a z h = tt

-- a move rewrites only an entry that names a page that its operation holds, to name another such page
abbrev pub MayTurn : File → Stage → Option EntryWrite → Type 0
MayTurn f st None = Unit {0}
MayTurn f st (Some w) = Holds st (entry_at f w.entry) × Holds st w.number

dir_other
    : (f : File) (st : Stage) (w : Option EntryWrite) (e p : ℕ)
    → MayTurn f st w
    → (Holds st p → ⊥)
    → (get_or (directory_after w f.directory) e 0 ≡ p) ↔ (entry_at f e ≡ p)
unfolding directory_after entry_at
dir_other f st None e p a n = Iff.rfl
dir_other f st (Some w) e p a n =
    by_cases (ℕ_discrete e w.entry)
    (λ (q : e ≡ w.entry). (
      by_cases (dec_lt w.entry (length f.directory))
          (λ l h. absurd (n (rw (← h, q, get_or-set_same f.directory w.entry w.number 0 l) a.1)))
          (λ l h. rw (← h, set_out f.directory w.entry w.number (omega arith))),
      λ h. absurd (n (rw (← h, q) a.0)),
    ))
    (λ q. rw (get_or-set_other f.directory w.entry e w.number 0 q) Iff.rfl)

-- so a move of one operation leaves alone what another holds
pub leaves_other
    : (f : File) (m : Move) (st : Stage) (H : ℕ → Type 0)
    → MayPage st m.page
    → MayTurn f st m.entry
    → ((p : ℕ) → H p → Holds st p → ⊥)
    → Leaves f m H
unfolding page_at entry_at
leaves_other f m st H a b n =
    record {
      page = λ p h. page_other f.table st m.page a p (n p h);
      named = λ e p h. (dir_other f st m.entry e p b (n p h)).1;
      names = λ e p h. (dir_other f st m.entry e p b (n p h)).0;
    }
