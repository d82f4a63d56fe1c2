-- What a turn writes. An entry is written only at the stage for it, and it comes to name a higher and deeper page than it named. A page that
-- is written becomes no less deep; and its new pattern begins an entry that names another page only where it did so before, at the same depth.
use Prim.Native.Nat.{ℕ, suc, ◌+◌, ◌^◌, ◌<◌, ◌≤◌}
use Rattle.std.specs.Prelude.{◌≡◌, ◌⊎◌, List, Bool, true, get_or, Option, None, Some}
use Rattle.std.proofs.Math.Path.{refl}
use Rattle.std.proofs.Common.{ap, ◌∙◌}
use Rattle.std.proofs.Math.Logic.{inl, inr}
use native.Mathlib.Omega.{arith}
use Rattle.spec.specs.declared.Rec.{Rec}
use Rattle.spec.specs.declared.Op.{Op}
use Rattle.spec.specs.declared.Kind.{Kind}
use Rattle.spec.specs.declared.Kind.TheVariants.{Search, Insert, Delete}
use Rattle.spec.specs.declared.Task.{Task}
use Rattle.spec.specs.declared.Task.TheVariants.{Verify, Release, Decide, WritePage, WriteOld, Unlock}
use Rattle.spec.specs.declared.Part.{Part}
use Rattle.spec.specs.declared.Part.TheVariants.{WriteNew, WriteEntry, UnlockNew}
use Rattle.spec.specs.declared.Stage.{Stage}
use Rattle.spec.specs.declared.Stage.TheVariants.{NotBegun, ReadPage, Reread, Lock, Held, Split, Done}
use Rattle.spec.specs.Key.{index, begins}
use Rattle.spec.specs.File.{Page, File, zero_page, page_at, entry_at, found_of}
use Rattle.spec.specs.Job.{no_op}
use Rattle.spec.specs.Split.{added}
use Rattle.spec.specs.State.{State, Answer, same, PageWrite, EntryWrite, Move, go}
use Rattle.spec.specs.Turn.{plan_of, new_count, goes_to, begin, looked, looked_at, reread, cleared, written, verified, old_written, held_turn, split_turn, turn}
use Rattle.spec.specs.Run.{stage_of}
use Rattle.spec.specs.Proper.{In}
use Rattle.laws.specs.Tools.{if_case, first, rest, each_at}
use Rattle.laws.specs.Turns.Prefix.{fit_32, entry-call, begins_in}
use Rattle.laws.specs.Turns.Ranges.{Span}
use Rattle.laws.specs.Turns.Good.{FinePart, Fine, Planned, Good}
use Rattle.laws.specs.Turns.Work.{Plan, WorkTask, WorkPart, Work}
use Rattle.laws.specs.Turns.SplitPlan.{made, serves, old_stays, goes_new}
use Rattle.laws.specs.Turns.Rows.{still}
use Rattle.laws.specs.Turns.Does.{Coherent, Unreached, fresh}
use Rattle.laws.specs.Turns.Owned.{Stay, OwnsTask, Owns}
use Rattle.laws.specs.Turns.Settled.{Settled}
use Rattle.laws.specs.Turns.Depths.{plan_low, plan_deeper}
use Rattle.laws.specs.Turns.Decision.{decided_case}

-- page q of a file begins entry e: its pattern does
abbrev pub BeginsAt : File → Page → ℕ → Type 0
BeginsAt f q e = begins f.g q.depth q.pattern e ≡ true

-- the entry that the turn at this stage writes
pub data WritesEntry (f : File) : Stage → Option EntryWrite → Type 0 where
  no_entry : {st : Stage} → WritesEntry f st None
  one_entry
      : {x b n j y : ℕ}
      → entry_at f j ≡ x
      → j < 2 ^ f.g
      → x < y
      → (page_at f x).depth < (page_at f y).depth
      → WritesEntry f (Split x b n (WriteEntry j)) (Some (record { entry = j; number = y }))

-- page x, that becomes q
pub record PageAfter (f : File) (x : ℕ) (q : Page) : Type 0 where
  pub deep : (page_at f x).depth ≤ q.depth
  pub begun : (e : ℕ) → e < 2 ^ f.g → BeginsAt f q e → (entry_at f e ≡ x → ⊥) → (q.depth ≡ (page_at f x).depth) × BeginsAt f (page_at f x) e

-- one that keeps depth and pattern
pub same_page_lem : (f : File) (x : ℕ) (q : Page) → q.depth ≡ (page_at f x).depth → q.pattern ≡ (page_at f x).pattern → PageAfter f x q
same_page_lem f x q d p = record { deep = omega arith; begun = λ e l b n. (d, rw (d, p) at b) }

-- the page that the turn writes; or it is one of a split that no entry names yet
abbrev pub WritesPage : File → Stage → Option PageWrite → Type 0
WritesPage f st None = Unit {0}
WritesPage f st (Some w) = Unreached st w.number ⊎ PageAfter f w.number w.page

pub record Writes (f : File) (st : Stage) (m : Move) : Type 0 where
  pub entry : WritesEntry f st m.entry
  pub page : WritesPage f st m.page

module _ (ops : List Op) (s : State) (op : Op) (good : Good ops s) (coherent : Coherent ops s) where
  abbrev f : File
  f = s.file

  abbrev W : Stage → Move → Type 0
  W st m = Writes f st m

  calm : {st to : Stage} {a : Answer} {x n t : ℕ} {v : Bool} → W st (still to a x n v t)
  calm = record { entry = no_entry; page = tt }

  begin_writes : (k : Kind) (x : ℕ) → W NotBegun (go (begin k x) same)
  unfolding begin
  begin_writes Search x = calm
  begin_writes Insert x = calm
  begin_writes Delete x = calm

  looked_writes : (x : ℕ) (o : Option Rec) → W (ReadPage x) (looked s op (found_of x o))
  unfolding looked_at
  looked_writes x None = calm
  looked_writes x (Some r) = calm

  written_writes : (x : ℕ) (k : Kind) → W (Held x WritePage) (written s op x k (page_at f x))
  unfolding written added cleared
  written_writes x Search = calm
  written_writes x Insert = record { entry = no_entry; page = inr (same_page_lem f x _ refl refl) }
  written_writes x Delete = record { entry = no_entry; page = inr (same_page_lem f x _ refl refl) }

  -- the old page of a split: every entry that its new pattern begins stays, so it names the page
  old_writes : (x : ℕ) → Plan f op x → Stay f op x → W (Held x WriteOld) (old_written s op x)
  unfolding old_written
  old_writes x pl st =
      record { entry = no_entry; page = inr (record { deep = omega (arith, (plan_low f op x).0); begun = λ e l b n. absurd (n (names e l b)) }) }
    where
      names : (e : ℕ) → e < 2 ^ f.g → BeginsAt f (plan_of f op x).old e → entry_at f e ≡ x
      names e l b =
          let k = entry-call f good.fit e l in
          let deep = (first (made f op x good.fit (coherent.pages x) pl)).ok.deep in
          let i = begins_in f.g (plan_of f op x).old k.0 deep (fit_32 f good.fit) (rw k.1 b) in
          let inside = (first (serves f op x good.fit (coherent.pages x) pl)).inside k.0 i in
          rw k.1 at (st k.0 inside (old_stays f op x good.fit (coherent.pages x) pl k.0 i))

  entry_writes
      : (x b n j : ℕ)
      → Plan f op x
      → Planned f op x b n
      → FinePart f op x b n (WriteEntry j)
      → WorkPart f op x b n (WriteEntry j)
      → W (Split x b n (WriteEntry j)) (split_turn s op x b n (WriteEntry j))
  unfolding split_turn new_count
  entry_writes x b n j pl pn fi w =
      record { entry = one_entry {y = goes_to f op x b j} w.1 w.2 (omega (arith, o.2, pn.below)) (rw pgy deeper); page = tt }
    where
      o : (i : ℕ) × (i < n) × (goes_to f op x b j ≡ suc b + i) × ((k : ℕ) → index f.g k ≡ j → In (get_or (plan_of f op x).news i zero_page) k)
      o = goes_new f op x good.fit (coherent.pages x) pl b n j pn.count fi

      pgy : page_at f (goes_to f op x b j) ≡ get_or (plan_of f op x).news o.0 zero_page
      pgy = ap (page_at f) o.2 ∙ w.0 o.0 o.1

      deeper : (page_at f x).depth < (get_or (plan_of f op x).news o.0 zero_page).depth
      deeper =
          each_at (plan_of f op x).news o.0 zero_page (omega (arith, o.1, pn.count))
          (rest (plan_deeper f op x (omega (arith, o.1, pn.count))))

  held_writes : (x : ℕ) (t : Task) → WorkTask f op x t → OwnsTask f op x t → W (Held x t) (held_turn s op x t)
  unfolding held_turn verified
  held_writes x Verify w u = if_case (W (Held x Verify)) (λ e. calm) (λ e. calm)
  held_writes x (Release y) w u = calm
  held_writes x Decide w u = decided_case s op x (W (Held x Decide)) (λ a. calm) calm (λ l u. calm) _
  held_writes x WritePage w u = written_writes x _
  held_writes x WriteOld w u = old_writes x w.0 u
  held_writes x Unlock w u = calm

  split_writes
      : (x b n : ℕ) (q : Part)
      → Fine f op (Split x b n q)
      → Work f op (Split x b n q)
      → W (Split x b n q) (split_turn s op x b n q)
  unfolding split_turn
  split_writes x b n (WriteNew i) h w =
      let sp : Span (suc b) n (b + i) = omega arith in
      record { entry = no_entry; page = inl (fresh sp) }
  split_writes x b n (WriteEntry j) h w = entry_writes x b n j w.0 h.0 h.1 w.1
  split_writes x b n UnlockNew h w = calm

  turn_writes : (st : Stage) → Fine f op st → Work f op st → Owns f op st → W st (turn s op st)
  unfolding turn reread
  turn_writes NotBegun h w u = begin_writes _ _
  turn_writes (ReadPage x) h w u = looked_writes x _
  turn_writes (Reread x t) h w u = if_case (W (Reread x t)) (λ e. calm) (λ e. calm)
  turn_writes (Lock x) h w u = calm
  turn_writes (Held x t) h w u = held_writes x t w u
  turn_writes (Split x b n q) h w u = split_writes x b n q h w
  turn_writes Done h w u = calm

-- what the turn of operation i writes
pub i_writes
    : (ops : List Op) (s : State) (i : ℕ)
    → Good ops s
    → Coherent ops s
    → Settled ops s
    → Writes s.file (stage_of s i) (turn s (get_or ops i no_op) (stage_of s i))
i_writes ops s i good coherent settled =
    turn_writes ops s (get_or ops i no_op) good coherent (stage_of s i) (good.fine i) (coherent.work i) (settled.owns i)
