-- Which page every entry names, after a turn of the operation itself: a page that it has done with is named by every entry that its pattern
-- begins.
use Prim.Native.Nat.{ℕ, suc, ◌+◌, ◌-◌, ◌^◌, ◌<◌, ◌≤◌}
use Rattle.std.specs.Prelude.{◌≡◌, refl, List, Bool, length, Option, None, Some}
use Rattle.std.proofs.Common.{sym, ◌∙◌, inl, arith}
use Rattle.std.proofs.Math.Path.{ap}
use Rattle.std.proofs.Math.Logic.{inr, ⊎_elim, by_cases}
use Rattle.std.proofs.Math.Bool.{false}
use Rattle.std.proofs.Math.Decide.{ℕ_discrete, dec_lt, dec_le}
use Rattle.std.proofs.Math.ListN.{get_or}
use Rattle.spec.specs.declared.Rec.{Rec}
use Rattle.spec.specs.declared.Op.{Op}
use Rattle.spec.specs.declared.Kind.{Kind}
use Rattle.spec.specs.declared.Kind.TheVariants.{Search, Insert, Delete}
use Rattle.spec.specs.declared.Task.{Task}
use Rattle.spec.specs.declared.Task.TheVariants.{Verify, Release, Decide, WritePage, WriteOld, Unlock}
use Rattle.spec.specs.declared.Part.{Part}
use Rattle.spec.specs.declared.Part.TheVariants.{WriteNew, WriteEntry, UnlockNew}
use Rattle.spec.specs.declared.Stage.{Stage}
use Rattle.spec.specs.declared.Stage.TheVariants.{NotBegun, ReadPage, Reread, Lock, Held, Split, Done}
use Rattle.spec.specs.Key.{index}
use Rattle.spec.specs.File.{Page, File, zero_page, page_at, entry_at, found_of}
use Rattle.spec.specs.Split.{added}
use Rattle.spec.specs.State.{State, Answer, same, Move, go, go_lock, go_page, go_entry}
use Rattle.spec.specs.Turn.{plan_of, goes_to, begin, looked, looked_at, reread, decided, cleared, written, verified, old_written, held_turn, entries_from, split_turn, turn}
use Rattle.spec.specs.Run.{table_after, directory_after, file_after}
use Rattle.spec.specs.Proper.{In, PageNo}
use Rattle.laws.specs.Tools.{if_case, first}
use Rattle.laws.specs.Turns.Prefix.{index_in}
use Rattle.laws.specs.Turns.Ranges.{Span, span?}
use Rattle.laws.specs.Turns.Rows.{still}
use Rattle.laws.specs.Turns.Locks.{Holds}
use Rattle.laws.specs.Turns.Plans.{goes_same, goes_any, Passed, entries_case}
use Rattle.laws.specs.Turns.Good.{Planned, FinePart, Fine, Good, page-lt}
use Rattle.laws.specs.Turns.Work.{Plan, WorkTask, WorkPart, Work}
use Rattle.laws.specs.Turns.Lookup.{page-not, page_dir, page_same, entry-not, entry-page, entry_same}
use Rattle.laws.specs.Turns.SplitPlan.{serves, old_stays, new_goes}
use Rattle.laws.specs.Turns.Does.{Coherent}
use Rattle.laws.specs.Turns.Owned.{BusyTask, Busy, Owned, OwnsFrom, OwnsTask, OwnsPart, Owns, stay-after, Keeps}
use Rattle.laws.specs.Turns.Decision.{decided_case}

kept-page : (f : File) (st : Stage) (a n x : ℕ) → page_at (file_after (go_lock st a n false 0) f) x ≡ page_at f x
unfolding page_at table_after
kept-page f st a n x = refl

kept_dir : (f : File) (st : Stage) (a n e : ℕ) → entry_at (file_after (go_lock st a n false 0) f) e ≡ entry_at f e
unfolding entry_at directory_after
kept_dir f st a n e = refl

module _ (ops : List Op) (s : State) (op : Op) (good : Good ops s) (coherent : Coherent ops s) where
  abbrev f : File
  f = s.file

  abbrev K : Stage → Move → Type 0
  K st m = Keeps f op st m

  -- a turn that writes neither a page nor an entry
  calm
      : {st to : Stage} {a : Answer} {x n t : ℕ} {v : Bool}
      → ((p : ℕ) → (Busy to p → ⊥) → Busy st p → ⊥)
      → ((p : ℕ) → f.used < p → p ≤ f.used + t → Busy to p)
      → Owns (file_after (still to a x n v t) f) op to
      → K st (still to a x n v t)
  unfolding page_at entry_at table_after directory_after
  calm b u h =
      record {
        owns = h;
        owner = λ y p nb o. o (b y nb) (by_cases (dec_le y f.used) (λ l. omega arith) (λ l. absurd (nb (u y (omega arith) (omega arith)))));
      }

  -- and that takes no page, from and to stages that change none
  pause
      : {st to : Stage} {a : Answer} {x n : ℕ} {v : Bool}
      → ((p : ℕ) → Busy st p → ⊥)
      → Owns (file_after (still to a x n v 0) f) op to
      → K st (still to a x n v 0)
  pause b h = calm (λ p n. b p) (λ p l k. absurd (omega arith)) h

  begin-keeps : (k : Kind) (x : ℕ) → K NotBegun (go (begin k x) same)
  unfolding begin
  begin-keeps Search x = pause (λ p h. h) tt
  begin-keeps Insert x = pause (λ p h. h) tt
  begin-keeps Delete x = pause (λ p h. h) tt

  looked-keeps : (x : ℕ) (o : Option Rec) → K (ReadPage x) (looked s op (found_of x o))
  unfolding looked_at
  looked-keeps x None = pause (λ p h. h) tt
  looked-keeps x (Some r) = pause (λ p h. h) tt

  decided-keeps : (x : ℕ) (r : Option Rec) → Owned f x → K (Held x Decide) (decided s op op.kind (found_of x r))
  unfolding page_at entry_at table_after directory_after
  decided-keeps x r o =
      decided_case s op x (K (Held x Decide)) (λ a. pause (λ p h. h) tt) (pause (λ p h. h) tt)
      (λ l u.
      calm (λ p n h. h) (λ p l h. inr (omega arith))
      (record { stay = λ k i z. o k i; later = λ k i l. o k i; moved = λ k i l. absurd (omega arith) }))
      r

  -- a turn that writes page y as q
  put
      : {st to : Stage} {a : Answer} (y : ℕ) (q : Page)
      → y ≤ f.used
      → Owns (file_after (go_page to a y q) f) op to
      → ((p : ℕ) → (p ≡ y → ⊥) → (Busy to p → ⊥) → Busy st p → ⊥)
      → (((Busy st y → ⊥) → PageNo f y → Owned f y) → (Busy to y → ⊥) → PageNo f y → (k : ℕ) → In q k → entry_at f (index f.g k) ≡ y)
      → K st (go_page to a y q)
  put y q l h b o =
      record {
        owns = h;
        owner = λ x p nb old k i.
            page_dir f y q _
            ∙ by_cases (ℕ_discrete x y)
            (λ (e : x ≡ y).
            let i' : In q k = rw (e, page_same f y q (page-lt f good.fit y l)) at i in
            o (λ n z. rw e at (old (λ w. n (rw e at w)) (omega arith))) (λ w. nb (rw e w)) (omega arith) k i' ∙ sym e)
            (λ e. old (b x e nb) (omega arith) k (rw (page-not f y q x e) at i));
      }

  written_keeps : (x : ℕ) (k : Kind) → PageNo f x → K (Held x WritePage) (written s op x k (page_at f x))
  unfolding written added cleared
  written_keeps x Search l = pause (λ p h. h) tt
  written_keeps x Insert l = put x _ l.1 tt (λ p e n h. h) (λ o n p k i. o (λ h. h) p k i)
  written_keeps x Delete l = put x _ l.1 tt (λ p e n h. h) (λ o n p k i. o (λ h. h) p k i)

  -- an operation that splits page x
  module _ (x : ℕ) (nu : PageNo f x) (pl : Plan f op x) where
    old-keeps : WorkTask f op x WriteOld → OwnsTask f op x WriteOld → K (Held x WriteOld) (old_written s op x)
    unfolding old_written
    old-keeps w h =
        put x _ nu.1 tt (λ p e n b. e b)
        (λ o n p k i.
        h k ((first (serves f op x good.fit (coherent.pages x) pl)).inside k i) (old_stays f op x good.fit (coherent.pages x) pl k i))

    entries_own
        : (m : Move) (b j : ℕ)
        → page_at (file_after m f) x ≡ page_at f x
        → ((e : ℕ) → j ≤ e → entry_at (file_after m f) e ≡ entry_at f e)
        → OwnsFrom (file_after m f) op x b j
        → OwnsPart (file_after m f) op x b (entries_from f op x b j)
    entries_own m b j pg dr h =
        entries_case (OwnsPart (file_after m f) op x b) f op x b j (λ c w. from c w.passed (λ k l. omega (arith, w.from)))
        (λ w. from (2 ^ f.g) w (λ k l. absurd (let z = index_in f good.fit k in omega arith)))
      where
        from : (c : ℕ) → Passed f op x j c → ((k : ℕ) → c ≤ index f.g k → j ≤ index f.g k) → OwnsFrom (file_after m f) op x b c
        from c w u =
            record {
              stay = h.stay;
              later = λ k i l. h.later k i (u k l);
              moved = λ k i l g.
                  by_cases (dec_lt (index f.g k) j) (λ q. h.moved k i q g)
                  (λ q.
                  let at : entry_at f (index f.g k) ≡ x = sym (dr (index f.g k) (omega arith)) ∙ h.later k i (omega arith) in
                  absurd (g (goes_same f m op x pg b _ ∙ goes_any f op x 0 b _ (w (index f.g k) (omega arith) l at))));
            }

    new_keeps
        : (b n i : ℕ)
        → Planned f op x b n
        → FinePart f op x b n (WriteNew i)
        → OwnsFrom f op x b 0
        → K (Split x b n (WriteNew i)) (split_turn s op x b n (WriteNew i))
    unfolding split_turn
    new_keeps b n i pn fi h =
        put (b + i) q (omega (arith, pn.top))
        (if_case (OwnsPart (file_after m f) op x b) (λ e. kept) (λ e. entries_own m b 0 pg (λ e l. page_dir f (b + i) q e) kept))
        (λ p e nb b. nb b)
        (λ o nb p k i'. absurd (nb (inr (omega arith))))
      where
        q : Page
        q = get_or (plan_of f op x).news (i - 1) zero_page

        m : Move
        m = go_page Done same (b + i) q

        pg : page_at (file_after m f) x ≡ page_at f x
        pg = page-not f (b + i) q x (λ e. omega (arith, pn.below))

        kept : OwnsFrom (file_after m f) op x b 0
        kept =
            record {
              stay = stay-after f m op x pg (λ e d. page_dir f (b + i) q e ∙ d) h.stay;
              later = λ k w l. page_dir f (b + i) q _ ∙ h.later k (rw pg at w) l;
              moved = λ k w l. absurd (omega arith);
            }

    entry-keeps
        : (b n j : ℕ)
        → Planned f op x b n
        → FinePart f op x b n (WriteEntry j)
        → WorkPart f op x b n (WriteEntry j)
        → OwnsFrom f op x b j
        → K (Split x b n (WriteEntry j)) (split_turn s op x b n (WriteEntry j))
    unfolding split_turn
    entry-keeps b n j pn fi w h =
        record {
          owns = entries_own m b (suc j) pg (λ e l. entry-not f j y e (λ z. omega arith)) kept;
          owner = λ z p nb old k i.
              let i' : In (page_at f z) k = rw (entry-page f j y z) at i in
              let d : entry_at f (index f.g k) ≡ z = old nb (omega arith) k i' in
              entry-not f j y _ (λ e. nb (inl (sym d ∙ ap (entry_at f) e ∙ w.1))) ∙ d;
        }
      where
        y : ℕ
        y = goes_to f op x b j

        m : Move
        m = go_entry Done same j y

        lt : j < length f.directory
        lt = omega (arith, good.fit.size, w.2)

        pg : page_at (file_after m f) x ≡ page_at f x
        pg = entry-page f j y x

        kept : OwnsFrom (file_after m f) op x b (suc j)
        kept =
            record {
              stay = λ k i z.
                  let z' = sym (goes_same f m op x pg 0 (index f.g k)) ∙ z in
                  entry-not f j y _ (λ e. fi (goes_any f op x 0 b j (rw e at z'))) ∙ h.stay k (rw pg at i) z';
              later = λ k i l. entry-not f j y _ (λ e. omega arith) ∙ h.later k (rw pg at i) (omega arith);
              moved = λ k i l g.
                  by_cases (ℕ_discrete (index f.g k) j)
                  (λ (e : index f.g k ≡ j). rw e (entry_same f j y lt ∙ sym (goes_same f m op x pg b j)))
                  (λ e.
                  entry-not f j y _ e
                  ∙ h.moved k (rw pg at i) (omega arith) (λ z. g (goes_same f m op x pg b _ ∙ z))
                  ∙ sym (goes_same f m op x pg b _));
            }

    unlock_keeps
        : (b n : ℕ)
        → Planned f op x b n
        → WorkPart f op x b n UnlockNew
        → OwnsFrom f op x b (2 ^ f.g)
        → K (Split x b n UnlockNew) (split_turn s op x b n UnlockNew)
    unfolding split_turn
    unlock_keeps b n pn w h =
        record {
          owns = stay-after f m op x (kept-page f (Held x WriteOld) (suc b) n x) (λ e d. kept_dir f (Held x WriteOld) (suc b) n e ∙ d) h.stay;
          owner = λ z p nb old k i.
              let i' : In (page_at f z) k = rw (kept-page f (Held x WriteOld) (suc b) n z) at i in
              kept_dir f (Held x WriteOld) (suc b) n _
              ∙ by_cases (span? (suc b) n z) (λ sp. new_owned z sp k i') (λ sp. old (λ bs. ⊎_elim nb sp bs) (omega arith) k i');
        }
      where
        m : Move
        m = go_lock (Held x WriteOld) (suc b) n false 0

        new_owned : (z : ℕ) → Span (suc b) n z → (k : ℕ) → In (page_at f z) k → entry_at f (index f.g k) ≡ z
        new_owned z sp k i =
            let e : suc b + (z - suc b) ≡ z = omega arith in
            let pgz : page_at f z ≡ get_or (plan_of f op x).news (z - suc b) zero_page = ap (page_at f) (sym e) ∙ w.0 (z - suc b) (omega arith) in
            let i' : In (get_or (plan_of f op x).news (z - suc b) zero_page) k = rw pgz at i in
            let g = new_goes f op x good.fit (coherent.pages x) pl b n k (z - suc b) pn.count (omega arith) i' in
            h.moved k g.1 (index_in f good.fit k) (λ q. omega (arith, g.0)) ∙ g.0 ∙ e

  held_keeps
      : (x : ℕ) (t : Task)
      → Fine f op (Held x t)
      → WorkTask f op x t
      → ((BusyTask x t x → ⊥) → Owned f x)
      → OwnsTask f op x t
      → K (Held x t) (held_turn s op x t)
  unfolding held_turn verified
  held_keeps x Verify h w o u = if_case (K (Held x Verify)) (λ e. pause (λ p h. h) tt) (λ e. pause (λ p h. h) tt)
  held_keeps x (Release y) h w o u = pause (λ p h. h) tt
  held_keeps x Decide h w o u = decided-keeps x _ (o (λ h. h))
  held_keeps x WritePage h w o u = written_keeps x _ h.0
  held_keeps x WriteOld h w o u = old-keeps x h.0 w.0 w u
  held_keeps x Unlock h w o u = pause (λ p h. h) tt

  split_keeps
      : (x b n : ℕ) (q : Part)
      → Fine f op (Split x b n q)
      → Work f op (Split x b n q)
      → OwnsPart f op x b q
      → K (Split x b n q) (split_turn s op x b n q)
  split_keeps x b n (WriteNew i) h w u = new_keeps x h.0.number w.0 b n i h.0 h.1 u
  split_keeps x b n (WriteEntry j) h w u = entry-keeps x h.0.number w.0 b n j h.0 h.1 w.1 u
  split_keeps x b n UnlockNew h w u = unlock_keeps x h.0.number w.0 b n h.0 w.1 u

  pub turn-keeps
      : (st : Stage)
      → Fine f op st
      → Work f op st
      → ((x : ℕ) → Holds st x → (Busy st x → ⊥) → Owned f x)
      → Owns f op st
      → K st (turn s op st)
  unfolding turn reread
  turn-keeps NotBegun h w o u = begin-keeps _ _
  turn-keeps (ReadPage x) h w o u = looked-keeps x _
  turn-keeps (Reread x t) h w o u = if_case (K (Reread x t)) (λ e. pause (λ p h. h) tt) (λ e. pause (λ p h. h) tt)
  turn-keeps (Lock x) h w o u = pause (λ p h. h) tt
  turn-keeps (Held x t) h w o u = held_keeps x t h w (o x refl) u
  turn-keeps (Split x b n q) h w o u = split_keeps x b n q h w u
  turn-keeps Done h w o u = pause (λ p h. h) tt
