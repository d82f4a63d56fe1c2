-- Which page every entry names: a page in use that no split is changing is named by every entry that its pattern begins. While a split is
-- changing pages, what is so of them, by its stage; a move of another operation leaves that as it is.
use Rattle.std.specs.Prelude.{ℕ, suc, ◌^◌, ◌<◌, ◌≤◌, ◌≡◌, refl, ◌⊎◌}
use Rattle.std.proofs.Common.{sym, ◌∙◌, inl, inr}
use Rattle.spec.specs.declared.Op.{Op}
use Rattle.spec.specs.declared.Task.{Task}
use Rattle.spec.specs.declared.Task.TheVariants.{Verify, Release, Decide, WritePage, WriteOld, Unlock}
use Rattle.spec.specs.declared.Part.{Part}
use Rattle.spec.specs.declared.Part.TheVariants.{WriteNew, WriteEntry, UnlockNew}
use Rattle.spec.specs.declared.Stage.{Stage}
use Rattle.spec.specs.declared.Stage.TheVariants.{NotBegun, ReadPage, Reread, Lock, Held, Split, Done}
use Rattle.spec.specs.Key.{index}
use Rattle.spec.specs.File.{File, page_at, entry_at}
use Rattle.spec.specs.State.{Move}
use Rattle.spec.specs.Turn.{goes_to}
use Rattle.spec.specs.Run.{file_after}
use Rattle.spec.specs.Proper.{In, PageNo}
use Rattle.laws.specs.Turns.Ranges.{Span}
use Rattle.laws.specs.Turns.Locks.{Holds}
use Rattle.laws.specs.Turns.Plans.{goes_same}
use Rattle.laws.specs.Turns.Good.{Planned, Fine, goes_span}
use Rattle.laws.specs.Turns.Work.{Leaves}

-- a split is changing page p
abbrev pub BusyTask : ℕ → Task → ℕ → Type 0
BusyTask x Verify p = ⊥
BusyTask x (Release y) p = ⊥
BusyTask x Decide p = ⊥
BusyTask x WritePage p = ⊥
BusyTask x WriteOld p = p ≡ x
BusyTask x Unlock p = ⊥

abbrev pub Busy : Stage → ℕ → Type 0
Busy NotBegun p = ⊥
Busy (ReadPage x) p = ⊥
Busy (Reread x t) p = ⊥
Busy (Lock x) p = ⊥
Busy (Held x t) p = BusyTask x t p
Busy (Split x b n q) p = (p ≡ x) ⊎ Span (suc b) n p
Busy Done p = ⊥

busy_task : (x : ℕ) (t : Task) (p : ℕ) → BusyTask x t p → p ≡ x
busy_task x Verify p h = absurd h
busy_task x (Release y) p h = absurd h
busy_task x Decide p h = absurd h
busy_task x WritePage p h = absurd h
busy_task x WriteOld p h = h
busy_task x Unlock p h = absurd h

pub busy_holds : (st : Stage) (p : ℕ) → Busy st p → Holds st p
busy_holds NotBegun p h = h
busy_holds (ReadPage x) p h = h
busy_holds (Reread x t) p h = h
busy_holds (Lock x) p h = h
busy_holds (Held x t) p h = busy_task x t p h
busy_holds (Split x b n q) p h = h
busy_holds Done p h = h

-- every call of page x has an entry that names it
abbrev pub Owned : File → ℕ → Type 0
Owned f x = (k : ℕ) → In (page_at f x) k → entry_at f (index f.g k) ≡ x

-- whose entry the split leaves
abbrev pub Stay : File → Op → ℕ → Type 0
Stay f op x = (k : ℕ) → In (page_at f x) k → goes_to f op x 0 (index f.g k) ≡ 0 → entry_at f (index f.g k) ≡ x

-- the same, where the entries below j have gone where the split sends them
pub record OwnsFrom (f : File) (op : Op) (x b j : ℕ) : Type 0 where
  pub stay : Stay f op x
  pub later : (k : ℕ) → In (page_at f x) k → j ≤ index f.g k → entry_at f (index f.g k) ≡ x
  pub moved
      : (k : ℕ)
      → In (page_at f x) k
      → index f.g k < j
      → (goes_to f op x b (index f.g k) ≡ 0 → ⊥)
      → entry_at f (index f.g k) ≡ goes_to f op x b (index f.g k)

abbrev pub OwnsTask : File → Op → ℕ → Task → Type 0
OwnsTask f op x Verify = Unit {0}
OwnsTask f op x (Release y) = Unit {0}
OwnsTask f op x Decide = Unit {0}
OwnsTask f op x WritePage = Unit {0}
OwnsTask f op x WriteOld = Stay f op x
OwnsTask f op x Unlock = Unit {0}

abbrev pub OwnsPart : File → Op → ℕ → ℕ → Part → Type 0
OwnsPart f op x b (WriteNew i) = OwnsFrom f op x b 0
OwnsPart f op x b (WriteEntry j) = OwnsFrom f op x b j
OwnsPart f op x b UnlockNew = OwnsFrom f op x b (2 ^ f.g)

abbrev pub Owns : File → Op → Stage → Type 0
Owns f op NotBegun = Unit {0}
Owns f op (ReadPage x) = Unit {0}
Owns f op (Reread x t) = Unit {0}
Owns f op (Lock x) = Unit {0}
Owns f op (Held x t) = OwnsTask f op x t
Owns f op (Split x b n q) = OwnsPart f op x b q
Owns f op Done = Unit {0}

-- a move that leaves alone what the operation holds
module _ (f : File) (m : Move) (op : Op) where
  pub stay-after
      : (x : ℕ)
      → page_at (file_after m f) x ≡ page_at f x
      → ((e : ℕ) → entry_at f e ≡ x → entry_at (file_after m f) e ≡ x)
      → Stay f op x
      → Stay (file_after m f) op x
  stay-after x pg nm h = λ k i z. nm _ (h k (rw pg at i) (sym (goes_same f m op x pg 0 _) ∙ z))

  from-after
      : (x b n j : ℕ)
      → Planned f op x b n
      → Leaves f m (λ p. (p ≡ x) ⊎ Span (suc b) n p)
      → OwnsFrom f op x b j
      → OwnsFrom (file_after m f) op x b j
  from-after x b n j pl a h =
      record {
        stay = stay-after x pg (λ e. a.named e x (inl refl)) h.stay;
        later = λ k i l. a.named _ x (inl refl) (h.later k (rw pg at i) l);
        moved = λ k i l g.
            let g' : goes_to f op x b (index f.g k) ≡ 0 → ⊥ = λ z. g (goes_same f m op x pg b _ ∙ z) in
            a.named _ _ (inr (span k g')) (h.moved k (rw pg at i) l g') ∙ sym (goes_same f m op x pg b _);
      }
    where
      pg : page_at (file_after m f) x ≡ page_at f x
      pg = a.page x (inl refl)

      span : (k : ℕ) → (goes_to f op x b (index f.g k) ≡ 0 → ⊥) → Span (suc b) n (goes_to f op x b (index f.g k))
      span k g = goes_span f op x b n (index f.g k) pl g

  task_after : (x : ℕ) (t : Task) → Leaves f m (λ p. p ≡ x) → OwnsTask f op x t → OwnsTask (file_after m f) op x t
  task_after x Verify a h = tt
  task_after x (Release y) a h = tt
  task_after x Decide a h = tt
  task_after x WritePage a h = tt
  task_after x WriteOld a h = stay-after x (a.page x refl) (λ e. a.named e x refl) h
  task_after x Unlock a h = tt

  part_after
      : (x b n : ℕ) (q : Part)
      → Planned f op x b n
      → Leaves f m (λ p. (p ≡ x) ⊎ Span (suc b) n p)
      → OwnsPart f op x b q
      → OwnsPart (file_after m f) op x b q
  part_after x b n (WriteNew i) pl a h = from-after x b n 0 pl a h
  part_after x b n (WriteEntry j) pl a h = from-after x b n j pl a h
  part_after x b n UnlockNew pl a h = from-after x b n (2 ^ f.g) pl a h

  pub owns-after : (st : Stage) → Leaves f m (Holds st) → Fine f op st → Owns f op st → Owns (file_after m f) op st
  owns-after NotBegun a z h = tt
  owns-after (ReadPage x) a z h = tt
  owns-after (Reread x t) a z h = tt
  owns-after (Lock x) a z h = tt
  owns-after (Held x t) a z h = task_after x t a h
  owns-after (Split x b n q) a z h = part_after x b n q z.0 a h
  owns-after Done a z h = tt

-- what a move of an operation does: what it knows of its split; and a page that it is not changing after the move is owned, if pages that it was
-- not changing before were
pub record Keeps (f : File) (op : Op) (st : Stage) (m : Move) : Type 0 where
  pub owns : Owns (file_after m f) op m.stage
  pub owner
      : (x : ℕ)
      → PageNo (file_after m f) x
      → (Busy m.stage x → ⊥)
      → ((Busy st x → ⊥) → PageNo f x → Owned f x)
      → Owned (file_after m f) x
