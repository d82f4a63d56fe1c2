-- Every turn that an operation can use is legal; so every state of a run is good.
use Rattle.std.proofs.Math.Logic.Iff
use Rattle.std.specs.Prelude.{ℕ, suc, ◌+◌, ◌<◌, ◌≤◌, ◌≡◌, ◌↔◌, List, get_or, ltb, Option, None, Some}
use Rattle.std.proofs.Math.Path.{refl, ap}
use Rattle.std.proofs.Common.{sym, ◌∙◌, ltb-true}
use Rattle.std.proofs.Math.Logic.{inl, inr, ⊎_elim}
use Rattle.std.proofs.Math.Bool.{true, false, true≢false}
use native.Mathlib.Omega.{arith}
use Rattle.std.proofs.Math.ListN.{length}
use Rattle.std.proofs.Math.Seq.{get_or-set_other}
use Rattle.spec.specs.declared.Rec.{Rec}
use Rattle.spec.specs.declared.Op.{Op}
use Rattle.spec.specs.declared.Kind.{Kind}
use Rattle.spec.specs.declared.Kind.TheVariants.{Search, Insert, Delete}
use Rattle.spec.specs.declared.Task.{Task}
use Rattle.spec.specs.declared.Task.TheVariants.{Verify, Release, Decide, WritePage, WriteOld, Unlock}
use Rattle.spec.specs.declared.Part.{Part}
use Rattle.spec.specs.declared.Part.TheVariants.{WriteNew, WriteEntry, UnlockNew}
use Rattle.spec.specs.declared.Stage.{Stage}
use Rattle.spec.specs.declared.Stage.TheVariants.{NotBegun, ReadPage, Reread, Lock, Held, Split, Done}
use Rattle.spec.specs.Basics.{if}
use Rattle.spec.specs.File.{Page, zero_page, page_at, entry_at, found_of}
use Rattle.spec.specs.Job.{no_op}
use Rattle.spec.specs.State.{State, Answer, same, Move, go, go_lock, go_page}
use Rattle.spec.specs.Turn.{home_of, entry_of, rec_of, plan_of, new_count, goes_to, begin, looked, looked_at, reread, decided, written, verified, old_written, held_turn, entries_from, split_turn, turn}
use Rattle.spec.specs.Run.{table_after, file_after, stage_of, idle, step}
use Rattle.spec.specs.Proper.{PageNo}
use Rattle.laws.specs.Tools.{if_case}
use Rattle.laws.specs.Turns.Prefix.{index_in}
use Rattle.laws.specs.Turns.Count.{count-full}
use Rattle.laws.specs.Turns.Ranges.{Locked}
use Rattle.laws.specs.Turns.Rows.{step_case}
use Rattle.laws.specs.Turns.Locks.{Holds, Frees}
use Rattle.laws.specs.Turns.Plans.{plan_same, entries_case}
use Rattle.laws.specs.Turns.Good.{Planned, FineTask, FinePart, Fine, Legal, Good, planned_after, fine_part, fine-after, held_no, act_good, tick_good, goes_span}
use Rattle.laws.specs.Turns.Decision.{decided_case}

module _ (ops : List Op) (s : State) (op : Op) (good : Good ops s) where
  abbrev L : Stage → Move → Type 0
  L st m = Legal s op st m

  entry-no : PageNo s.file (entry_of s.file op)
  unfolding entry_of entry_at home_of
  entry-no = good.fit.entries _ (index_in s.file good.fit op.call)

  locked_no : (p : ℕ) → Locked s.locks p → PageNo s.file p
  locked_no p h = let w = good.locks.holder p h in held_no s.file _ (stage_of s w.0) (good.fine w.0) p w.1

  -- a turn that locks and unlocks no page
  no_span : {st to : Stage} → ((p : ℕ) → Holds st p ↔ Holds to p) → Frees 0 0 st to
  no_span e =
      record { keeps = λ p h n. (e p).0 h; only = λ p h. (e p).1 h; gone = λ p h w. omega arith; own = λ p w. absurd (omega arith) }

  -- a turn that changes nothing shared, between stages that hold the same pages
  calm : {st to : Stage} {a : Answer} → ((p : ℕ) → Holds st p ↔ Holds to p) → Fine s.file op to → L st (go to a)
  unfolding page_at table_after
  calm {to} {a} e h =
      record {
        rule = no_span e;
        fine = fine-after s.file (go to a) op to (λ p k. refl) h;
        limit = omega (arith, good.fit.within);
        page = tt;
        entry = tt;
      }

  looked_legal : (x : ℕ) (o : Option Rec) → PageNo s.file x → L (ReadPage x) (looked s op (found_of x o))
  unfolding looked_at
  looked_legal x None h = calm (λ p. Iff.rfl) h
  looked_legal x (Some r) h = calm (λ p. Iff.rfl) tt

  begin_legal : (k : Kind) (x : ℕ) → PageNo s.file x → L NotBegun (go (begin k x) same)
  unfolding begin
  begin_legal Search x h = calm (λ p. Iff.rfl) h
  begin_legal Insert x h = calm (λ p. Iff.rfl) h
  begin_legal Delete x h = calm (λ p. Iff.rfl) h

  -- turns that lock or unlock
  lock_legal : (x : ℕ) → PageNo s.file x → (Locked s.locks x → ⊥) → L (Lock x) (go_lock (Held x Verify) x 1 true 0)
  lock_legal x h n =
      record {
        rule =
            record {
              keeps = λ p k. absurd k;
              gets = λ p w. omega arith;
              only = λ p k. inr (omega arith);
              closed = λ p w k. let e : p ≡ x = omega arith in n (rw e at k);
              there = λ p w. omega (arith, good.size, good.fit.within);
            };
        fine = (omega arith, tt);
        limit = omega (arith, good.fit.within);
        page = tt;
        entry = tt;
      }

  unlock_legal : (x : ℕ) (t : Task) (to : Stage) → ((p : ℕ) → Holds to p → ⊥) → Fine s.file op to → L (Held x t) (go_lock to x 1 false 0)
  unfolding page_at table_after
  unlock_legal x t to n h =
      record {
        rule =
            record {
              keeps = λ p k m. absurd (m (omega arith));
              only = λ p k. absurd (n p k);
              gone = λ p k w. n p k;
              own = λ p w. omega arith;
            };
        fine = fine-after s.file (go_lock to x 1 false 0) op to (λ p k. refl) h;
        limit = omega (arith, good.fit.within);
        page = tt;
        entry = tt;
      }

  claim_legal
      : (x n : ℕ)
      → PageNo s.file x
      → n ≡ new_count s.file op x
      → 0 < n
      → s.file.used + n ≤ s.file.limit
      → L (Held x Decide) (go_lock (Split x s.file.used n (WriteNew 1)) (suc s.file.used) n true n)
  unfolding new_count page_at table_after
  claim_legal x n h e z k =
      record {
        rule =
            record {
              keeps = λ p q. inl q;
              gets = λ p q. inr q;
              only = λ p q. q;
              closed = λ p w q. let u = locked_no p q in omega arith;
              there = λ p w. omega (arith, good.size);
            };
        fine = (
          record {
            number = omega arith;
            below = h.1;
            top = omega arith;
            count = e ∙ ap (λ t. length t.news) (sym (plan_same s.file (go_lock Done 0 0 true n) op x refl));
          },
          (omega arith, z),
        );
        limit = k;
        page = tt;
        entry = tt;
      }

  decided_legal : (x : ℕ) (o : Option Rec) → PageNo s.file x → L (Held x Decide) (decided s op op.kind (found_of x o))
  unfolding new_count plan_of
  decided_legal x o h =
      decided_case s op x (L (Held x Decide)) (λ a. calm (λ p. Iff.rfl) (h, tt)) (calm (λ p. Iff.rfl) (h, tt))
      (λ l u.
      let w = count-full s.file.c s.file.g (page_at s.file x) (rec_of op) l in
      claim_legal x _ h refl (omega arith) u)
      o

  page_legal : (x : ℕ) (t : Task) (a : Answer) (q : Page) → PageNo s.file x → L (Held x t) (go_page (Held x Unlock) a x q)
  page_legal x t a q h =
      record { rule = no_span (λ p. Iff.rfl); fine = (omega arith, tt); limit = omega (arith, good.fit.within); page = refl; entry = tt }

  written_legal : (x : ℕ) (k : Kind) (q : Page) → PageNo s.file x → L (Held x WritePage) (written s op x k q)
  unfolding written
  written_legal x Search q h = calm (λ p. Iff.rfl) (h, tt)
  written_legal x Insert q h = page_legal x WritePage _ _ h
  written_legal x Delete q h = page_legal x WritePage _ _ h

  -- the parts of a split
  entries_part : (x b n j : ℕ) → FinePart s.file op x b n (entries_from s.file op x b j)
  entries_part x b n j = entries_case (FinePart s.file op x b n) s.file op x b j (λ k h. h.goes) (λ h. tt)

  new-part : (x b n i : ℕ) → FinePart s.file op x b n (if (ltb i n) (WriteNew (suc i)) (entries_from s.file op x b 0))
  new-part x b n i = if_case (FinePart s.file op x b n) (λ e. omega (arith, ltb-true i n e)) (λ e. entries_part x b n 0)

  goes_no : (x b n j : ℕ) → Planned s.file op x b n → (goes_to s.file op x b j ≡ 0 → ⊥) → PageNo s.file (goes_to s.file op x b j)
  goes_no x b n j h k = omega (arith, goes_span s.file op x b n j h k, h.top)

  after_split
      : (m : Move) (x b n : ℕ) (q : Part)
      → page_at (file_after m s.file) x ≡ page_at s.file x
      → Planned s.file op x b n
      → FinePart s.file op x b n q
      → Fine (file_after m s.file) op (Split x b n q)
  after_split m x b n q e h k = (planned_after s.file m op x b n e h, fine_part s.file m op x b n e q k)

  split_legal
      : (x b n : ℕ) (q : Part)
      → Planned s.file op x b n
      → FinePart s.file op x b n q
      → L (Split x b n q) (split_turn s op x b n q)
  unfolding split_turn page_at table_after
  split_legal x b n (WriteNew i) h k =
      record {
        rule = no_span (λ p. Iff.rfl);
        fine =
            after_split (split_turn s op x b n (WriteNew i)) x b n (if (ltb i n) (WriteNew (suc i)) (entries_from s.file op x b 0)) kept h
            (new-part x b n i);
        limit = omega (arith, good.fit.within);
        page = inr (omega arith);
        entry = tt;
      }
    where
      kept : page_at (file_after (split_turn s op x b n (WriteNew i)) s.file) x ≡ page_at s.file x
      kept = get_or-set_other s.file.table (b + i) x _ zero_page (λ e. omega (arith, h.below))
  split_legal x b n (WriteEntry j) h k =
      record {
        rule = no_span (λ p. Iff.rfl);
        fine =
            after_split (split_turn s op x b n (WriteEntry j)) x b n (entries_from s.file op x b (suc j)) refl h
            (entries_part x b n (suc j));
        limit = omega (arith, good.fit.within);
        page = tt;
        entry = goes_no x b n j h k;
      }
  split_legal x b n UnlockNew h k =
      record {
        rule =
            record {
              keeps = λ p q r. ⊎_elim (λ e. e) (λ w. absurd (r w)) q;
              only = λ p e. inl e;
              gone = λ p e w. omega (arith, h.below);
              own = λ p w. inr w;
            };
        fine = (omega (arith, h.number), tt);
        limit = omega (arith, good.fit.within);
        page = tt;
        entry = tt;
      }

  held_legal : (x : ℕ) (t : Task) → PageNo s.file x → FineTask s.file t → L (Held x t) (held_turn s op x t)
  unfolding held_turn verified old_written
  held_legal x Verify h k =
      if_case (L (Held x Verify)) (λ e. calm (λ p. Iff.rfl) (h, tt)) (λ e. calm (λ p. Iff.rfl) (h, entry-no))
  held_legal x (Release y) h k = unlock_legal x (Release y) (Lock y) (λ p e. e) k
  held_legal x Decide h k = decided_legal x _ h
  held_legal x WritePage h k = written_legal x _ _ h
  held_legal x WriteOld h k = page_legal x WriteOld _ _ h
  held_legal x Unlock h k = unlock_legal x Unlock Done (λ p e. e) tt

  turn_legal : (st : Stage) → Fine s.file op st → idle s.locks st ≡ false → L st (turn s op st)
  unfolding turn reread idle
  turn_legal NotBegun h e = begin_legal _ _ entry-no
  turn_legal (ReadPage x) h e = looked_legal x _ h
  turn_legal (Reread x t) h e =
      if_case (L (Reread x t)) (λ u. calm (λ p. Iff.rfl) tt) (λ u. calm (λ p. Iff.rfl) entry-no)
  turn_legal (Lock x) h e = lock_legal x h (λ k. true≢false (sym k ∙ e))
  turn_legal (Held x t) h e = held_legal x t h.0 h.1
  turn_legal (Split x b n q) h e = split_legal x b n q h.0 h.1
  turn_legal Done h e = absurd (true≢false e)

-- the turn of operation i, where it does not wait
pub i_legal
    : (ops : List Op) (s : State) (i : ℕ)
    → Good ops s
    → idle s.locks (stage_of s i) ≡ false
    → Legal s (get_or ops i no_op) (stage_of s i) (turn s (get_or ops i no_op) (stage_of s i))
i_legal ops s i good e = turn_legal ops s _ good (stage_of s i) (good.fine i) e

pub step_good : (ops : List Op) (s : State) (i : ℕ) → Good ops s → Good ops (step ops s i)
step_good ops s i good = step_case (Good ops) ops s i (tick_good ops s good) (λ lt e. act_good ops s i _ lt good (i_legal ops s i good e))
