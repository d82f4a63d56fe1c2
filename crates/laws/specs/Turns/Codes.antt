-- The code of an operation goes with its stage: 0 until its moment is known, another from then on. So an answer is given once and stays, and an
-- operation that is finished has one. And no search comes to lock a page.
use Rattle.std.specs.Prelude.{ℕ, suc, ◌+◌, ◌^◌, ◌<◌, ◌≤◌, ◌⊎◌, List, get_or, Option, None, Some}
use Rattle.std.proofs.Math.Path.{◌≡◌, refl}
use Rattle.std.proofs.Common.{sym, ◌∙◌, subst, ⊎_elim, get_or-set_other}
use Rattle.std.proofs.Math.Logic.{inl, inr, by_cases}
use native.Mathlib.Omega.{arith}
use Rattle.std.proofs.Math.Decide.{dec_lt}
use Rattle.std.proofs.Math.ListN.{length, length-set}
use Rattle.std.proofs.lemmas.List.{length-replicate, get_or-replicate}
use borrow.Author.Tests.{eqb-true, eqb-false}
use Rattle.spec.specs.declared.Rec.{Rec}
use Rattle.spec.specs.declared.Op.{Op}
use Rattle.spec.specs.declared.Found.{Found}
use Rattle.spec.specs.declared.Kind.{Kind}
use Rattle.spec.specs.declared.Kind.TheVariants.{Search, Insert, Delete}
use Rattle.spec.specs.declared.Task.{Task}
use Rattle.spec.specs.declared.Task.TheVariants.{Verify, Release, Decide, WritePage, WriteOld, Unlock}
use Rattle.spec.specs.declared.Part.{Part}
use Rattle.spec.specs.declared.Part.TheVariants.{WriteNew, WriteEntry, UnlockNew}
use Rattle.spec.specs.declared.Stage.{Stage}
use Rattle.spec.specs.declared.Stage.TheVariants.{NotBegun, ReadPage, Reread, Lock, Held, Split, Done}
use Rattle.spec.specs.File.{Page, File, zero_page, page_at, entry_at, found_of, look_into}
use Rattle.spec.specs.Job.{no_op}
use Rattle.spec.specs.Code.{not_yet, stored, deleted}
use Rattle.spec.specs.State.{Row, State, Answer, same, Move, blank, gone, go, go_page, go_entry}
use Rattle.spec.specs.Turn.{home_of, plan_of, goes_to, begin, looked, looked_at, reread, struck, written, verified, old_written, held_turn, entries_from, split_turn, turn}
use Rattle.spec.specs.Run.{table_after, file_after, code_after, moment_after, row_after, row_of, stage_of, tick, act, step, start}
use Rattle.spec.specs.Proper.{Fit}
use Rattle.laws.specs.Tools.{if_case}
use Rattle.laws.specs.Turns.Prefix.{index_in}
use Rattle.laws.specs.Turns.Rows.{row-after, step_case}
use Rattle.laws.specs.Turns.Locks.{Holds}
use Rattle.laws.specs.Turns.Plans.{goes_same, goes_any, Passed, entries_case}
use Rattle.laws.specs.Turns.Good.{Planned, FinePart, Fine, MayPage, Good, other_page}
use Rattle.laws.specs.Turns.Legal.{i_legal}
use Rattle.laws.specs.Turns.Work.{WorkPart, Work}
use Rattle.laws.specs.Turns.Does.{Coherent}
use Rattle.laws.specs.Turns.Decision.{Decision, searching, refused_missing, refused_there, to_store, to_strike, to_split, decision}

-- of an operation that splits page x: its moment is the writing of the old page, if its entry stays
abbrev pub Splits : File → Op → ℕ → ℕ → Type 0
Splits f op c x =
    (goes_to f op x 0 (home_of f op) ≡ 0 → c ≡ not_yet) × ((goes_to f op x 0 (home_of f op) ≡ 0 → ⊥) → c ≡ not_yet → ⊥)

pub CodeTask : File → Op → ℕ → ℕ → Task → Type 0
CodeTask f op c x Verify = c ≡ not_yet
CodeTask f op c x (Release y) = c ≡ not_yet
CodeTask f op c x Decide = c ≡ not_yet
CodeTask f op c x WritePage = c ≡ not_yet
CodeTask f op c x WriteOld = Splits f op c x
CodeTask f op c x Unlock = c ≡ not_yet → ⊥

-- and the writing of its entry, if that goes
pub CodePart : File → Op → ℕ → ℕ → Part → Type 0
CodePart f op c x (WriteNew i) = c ≡ not_yet
CodePart f op c x (WriteEntry j) =
    (j ≤ home_of f op → c ≡ not_yet)
    × (goes_to f op x 0 (home_of f op) ≡ 0 → c ≡ not_yet)
    × ((goes_to f op x 0 (home_of f op) ≡ 0 → ⊥) → home_of f op < j → c ≡ not_yet → ⊥)
CodePart f op c x UnlockNew = Splits f op c x

abbrev pub NoSearch : Op → Type 0
NoSearch op = op.kind ≡ Search → ⊥

-- what is known of the code c of an operation at this stage
abbrev pub CodeAt : File → Op → ℕ → Stage → Type 0
CodeAt f op c NotBegun = c ≡ not_yet
CodeAt f op c (ReadPage x) = c ≡ not_yet
CodeAt f op c (Reread x t) = c ≡ not_yet
CodeAt f op c (Lock x) = NoSearch op × (c ≡ not_yet)
CodeAt f op c (Held x t) = NoSearch op × CodeTask f op c x t
CodeAt f op c (Split x b n q) = NoSearch op × CodePart f op c x q
CodeAt f op c Done = c ≡ not_yet → ⊥

-- a move answers only where the code was 0, and leaves the code as the new stage has it
record Tells (s : State) (op : Op) (r : Row) (m : Move) : Type 0 where
  once : (m.answer ≡ same) ⊎ (r.code ≡ not_yet)
  code : CodeAt (file_after m s.file) op (code_after m.answer r) m.stage

module _ (s : State) (op : Op) (r : Row) where
  abbrev T : Move → Type 0
  T m = Tells s op r m

  looked_tells : (x : ℕ) (o : Option Rec) → r.code ≡ not_yet → T (looked s op (found_of x o))
  unfolding looked_at code_after
  looked_tells x None h = record { once = inr h; code = h }
  looked_tells x (Some w) h = record { once = inr h; code = λ z. omega arith }

  begin_tells : (k : Kind) (x : ℕ) → op.kind ≡ k → r.code ≡ not_yet → T (go (begin k x) same)
  unfolding begin code_after
  begin_tells Search x e h = record { once = inr h; code = h }
  begin_tells Insert x e h = record { once = inr h; code = (λ i. let z : ◌≡◌ {A = ℕ} 0 1 = cc in omega arith, h) }
  begin_tells Delete x e h = record { once = inr h; code = (λ i. let z : ◌≡◌ {A = ℕ} 0 1 = cc in omega arith, h) }

  decided_tells : {x : ℕ} {o : Option Rec} {m : Move} → NoSearch op → r.code ≡ not_yet → Decision s op x o m → T m
  unfolding code_after CodeTask CodePart
  decided_tells n h (searching e) = absurd (n e)
  decided_tells n h (refused_missing l y) = record { once = inr h; code = (n, λ z. omega arith) }
  decided_tells n h (refused_there l y) = record { once = inr h; code = (n, λ z. omega arith) }
  decided_tells n h (to_store i l) = record { once = inr h; code = (n, h) }
  decided_tells n h (to_strike e t) = record { once = inr h; code = (n, h) }
  decided_tells n h (to_split i l d u) = record { once = inr h; code = (n, h) }

  struck-code : (t : ℕ) (o : Found) → code_after (struck t o) r ≡ deleted
  unfolding code_after
  struck-code t o = refl

  written_tells : (x : ℕ) (k : Kind) (q : Page) → op.kind ≡ k → NoSearch op → r.code ≡ not_yet → T (written s op x k q)
  unfolding written code_after CodeTask
  written_tells x Search q e n h = absurd (n e)
  written_tells x Insert q e n h = record { once = inr h; code = (n, λ z. omega arith) }
  written_tells x Delete q e n h =
      record { once = inr h; code = (n, λ z. omega (arith, struck-code s.now (look_into s.file x op.call))) }

  old_tells : (x : ℕ) → NoSearch op → Splits s.file op r.code x → T (old_written s op x)
  unfolding old_written code_after CodeTask
  old_tells x n h =
      if_case (λ a. T (go_page (Held x Unlock) a x (plan_of s.file op x).old))
      (λ e. record { once = inr (h.0 (eqb-true _ _ e)); code = (n, λ z. omega arith) })
      (λ e. record { once = inl refl; code = (n, h.1 (eqb-false _ _ e)) })

  held_tells : (x : ℕ) (t : Task) → NoSearch op → CodeTask s.file op r.code x t → T (held_turn s op x t)
  unfolding held_turn verified code_after CodeTask
  held_tells x Verify n h = if_case T (λ e. record { once = inr h; code = (n, h) }) (λ e. record { once = inr h; code = (n, h) })
  held_tells x (Release y) n h = record { once = inr h; code = (n, h) }
  held_tells x Decide n h = decided_tells n h (decision s op x _)
  held_tells x WritePage n h = written_tells x _ _ refl n h
  held_tells x WriteOld n h = old_tells x n h
  held_tells x Unlock n h = record { once = inl refl; code = h }

  -- the code where the next entry, from j on, is looked for: the call's own is not passed over
  module _ (m : Move) (c x b j : ℕ) (pg : page_at (file_after m s.file) x ≡ page_at s.file x) where
    goes_back : goes_to (file_after m s.file) op x 0 (home_of s.file op) ≡ goes_to s.file op x 0 (home_of s.file op)
    goes_back = goes_same s.file m op x pg 0 _

    entries-code
        : Fit s.file
        → (j ≤ home_of s.file op → c ≡ not_yet)
        → (goes_to s.file op x 0 (home_of s.file op) ≡ 0 → c ≡ not_yet)
        → ((goes_to s.file op x 0 (home_of s.file op) ≡ 0 → ⊥) → home_of s.file op < j → c ≡ not_yet → ⊥)
        → (j ≤ home_of s.file op → entry_at s.file (home_of s.file op) ≡ x)
        → CodePart (file_after m s.file) op c x (entries_from s.file op x b j)
    unfolding CodePart home_of
    entries-code fit a st go d =
        entries_case (CodePart (file_after m s.file) op c x) s.file op x b j
        (λ k h. (
          λ l. a (omega (arith, h.from)),
          λ z. st (sym goes_back ∙ z),
          λ g l. past k h.passed (λ z. g (goes_back ∙ z)) l,
        ))
        (λ h. (
          λ z. st (sym goes_back ∙ z),
          λ g. past (2 ^ s.file.g) h (λ z. g (goes_back ∙ z)) (index_in s.file fit op.call),
        ))
      where
        past
            : (k : ℕ)
            → Passed s.file op x j k
            → (goes_to s.file op x 0 (home_of s.file op) ≡ 0 → ⊥)
            → home_of s.file op < k
            → c ≡ not_yet
            → ⊥
        past k p g l =
            by_cases (dec_lt (home_of s.file op) j) (λ q. go g q) (λ q z. g (p (home_of s.file op) (omega arith) l (d (omega arith))))

  entry_tells
      : (x b n j : ℕ)
      → Fit s.file
      → NoSearch op
      → FinePart s.file op x b n (WriteEntry j)
      → WorkPart s.file op x b n (WriteEntry j)
      → CodePart s.file op r.code x (WriteEntry j)
      → T (split_turn s op x b n (WriteEntry j))
  unfolding split_turn code_after CodePart home_of page_at table_after
  entry_tells x b n j fit ns k w h =
      if_case (λ a. T (go_entry (Split x b n (entries_from s.file op x b (suc j))) a j (goes_to s.file op x b j)))
      (λ e.
      let z : j ≡ home_of s.file op = eqb-true _ _ e in
      record {
        once = inr (h.0 (omega arith));
        code = (
          ns,
          entries-code m stored x b (suc j) refl fit (λ l. absurd (omega arith)) (λ q. absurd (k (rw z (goes_any s.file op x 0 b _ q))))
              (λ g l q. omega arith)
              (λ l. absurd (omega arith)),
        );
      })
      (λ e.
      let u = eqb-false j (home_of s.file op) e in
      record {
        once = inl refl;
        code = (
          ns,
          entries-code m r.code x b (suc j) refl fit (λ l. h.0 (omega arith)) h.1 (λ g l. h.2 g (omega arith))
              (λ l. w.3.ahead (omega arith)),
        );
      })
    where
      m : Move
      m = go_entry Done same j (goes_to s.file op x b j)

  split_tells
      : (x b n : ℕ) (q : Part)
      → Fit s.file
      → NoSearch op
      → Planned s.file op x b n
      → FinePart s.file op x b n q
      → WorkPart s.file op x b n q
      → CodePart s.file op r.code x q
      → T (split_turn s op x b n q)
  unfolding split_turn code_after CodePart CodeTask page_at table_after home_of
  split_tells x b n (WriteNew i) fit ns pl k w h =
      record {
        once = inr h;
        code = (
          ns,
          if_case (CodePart (file_after (split_turn s op x b n (WriteNew i)) s.file) op r.code x) (λ e. h)
              (λ e.
              entries-code (split_turn s op x b n (WriteNew i)) r.code x b 0
              (get_or-set_other s.file.table (b + i) x _ zero_page (λ z. omega (arith, pl.below)))
              fit (λ l. h) (λ z. h) (λ g l. absurd (omega arith)) (λ l. w.0)),
        );
      }
  split_tells x b n (WriteEntry j) fit ns pl k w h = entry_tells x b n j fit ns k w h
  split_tells x b n UnlockNew fit ns pl k w h =
      let e = goes_same s.file (split_turn s op x b n UnlockNew) op x refl 0 (home_of s.file op) in
      record { once = inl refl; code = (ns, (λ z. h.0 (sym e ∙ z), λ g. h.1 (λ z. g (e ∙ z)))) }

  turn_tells
      : (st : Stage)
      → Fit s.file
      → Fine s.file op st
      → Work s.file op st
      → CodeAt s.file op r.code st
      → T (turn s op st)
  unfolding turn reread code_after CodeTask
  turn_tells NotBegun fit f w h = begin_tells _ _ refl h
  turn_tells (ReadPage x) fit f w h = looked_tells x _ h
  turn_tells (Reread x t) fit f w h = if_case T (λ e. record { once = inr h; code = λ z. omega arith }) (λ e. record { once = inr h; code = h })
  turn_tells (Lock x) fit f w h = record { once = inr h.1; code = h }
  turn_tells (Held x t) fit f w h = held_tells x t h.0 h.1
  turn_tells (Split x b n q) fit f w h = split_tells x b n q fit h.0 f.0 f.1 w.1 h.1
  turn_tells Done fit f w h = record { once = inl refl; code = h }

-- what is known of the others' codes stays so, where their pages do
module _ (f : File) (m : Move) (op : Op) (c : ℕ) where
  splits_after : (x : ℕ) → page_at (file_after m f) x ≡ page_at f x → Splits f op c x → Splits (file_after m f) op c x
  unfolding home_of
  splits_after x e h = (λ w. h.0 (sym (goes_same f m op x e 0 _) ∙ w), λ g. h.1 (λ z. g (goes_same f m op x e 0 _ ∙ z)))

  task_after : (x : ℕ) (t : Task) → page_at (file_after m f) x ≡ page_at f x → CodeTask f op c x t → CodeTask (file_after m f) op c x t
  unfolding CodeTask
  task_after x Verify e h = h
  task_after x (Release y) e h = h
  task_after x Decide e h = h
  task_after x WritePage e h = h
  task_after x WriteOld e h = splits_after x e h
  task_after x Unlock e h = h

  part_after : (x : ℕ) (q : Part) → page_at (file_after m f) x ≡ page_at f x → CodePart f op c x q → CodePart (file_after m f) op c x q
  unfolding CodePart home_of
  part_after x (WriteNew i) e h = h
  part_after x (WriteEntry j) e h =
      (h.0, λ w. h.1 (sym (goes_same f m op x e 0 _) ∙ w), λ g. h.2 (λ z. g (goes_same f m op x e 0 _ ∙ z)))
  part_after x UnlockNew e h = splits_after x e h

  code-after
      : (st : Stage)
      → ((p : ℕ) → Holds st p → page_at (file_after m f) p ≡ page_at f p)
      → CodeAt f op c st
      → CodeAt (file_after m f) op c st
  code-after NotBegun a h = h
  code-after (ReadPage x) a h = h
  code-after (Reread x t) a h = h
  code-after (Lock x) a h = h
  code-after (Held x t) a h = (h.0, task_after x t (a x refl) h.1)
  code-after (Split x b n q) a h = (h.0, part_after x q (a x (inl refl)) h.1)
  code-after Done a h = h

pub record Codes (ops : List Op) (s : State) : Type 0 where
  pub code : (i : ℕ) → i < length s.rows → CodeAt s.file (get_or ops i no_op) (row_of s i).code (stage_of s i)

-- code and moment of a row are those of another
abbrev pub Kept : Row → Row → Type 0
Kept r q = (r.code ≡ q.code) × (r.moment ≡ q.moment)

same_kept : (a : Answer) (r : Row) → a ≡ same → (code_after a r ≡ r.code) × (moment_after a r ≡ r.moment)
unfolding code_after moment_after
same_kept a r e = (rw (e, code_after), rw (e, moment_after))

module _ (ops : List Op) (s : State) (i : ℕ) (good : Good ops s) (coherent : Coherent ops s) (codes : Codes ops s) where
  i_tells : i < length s.rows → Tells s (get_or ops i no_op) (row_of s i) (turn s (get_or ops i no_op) (stage_of s i))
  i_tells lt = turn_tells s _ (row_of s i) (stage_of s i) good.fit (good.fine i) (coherent.work i) (codes.code i lt)

  act_codes
      : (m : Move)
      → i < length s.rows
      → MayPage (stage_of s i) m.page
      → Tells s (get_or ops i no_op) (row_of s i) m
      → Codes ops (act s i m)
  unfolding stage_of
  act_codes m lt may t =
      record {
        code =
            row-after s i m lt
            (λ j r. j < length (act s i m).rows → CodeAt (file_after m s.file) (get_or ops j no_op) r.code r.stage)
            (λ l. t.code)
            (λ j e l.
            code-after s.file m _ _ (stage_of s j) (other_page ops s i j m good may e)
            (codes.code j (omega (arith, length-set s.rows i (row_after m (row_of s i))))));
      }

  tick_codes : Codes ops (tick s)
  unfolding row_of stage_of
  tick_codes = record { code = codes.code }

  pub step_codes : Codes ops (step ops s i)
  step_codes = step_case (Codes ops) ops s i tick_codes (λ lt e. act_codes _ lt (i_legal ops s i good e).page (i_tells lt))

  -- a row with a code keeps it, and its moment, over a turn
  pub act-kept
      : i < length s.rows
      → (j : ℕ)
      → ((row_of s j).code ≡ not_yet → ⊥)
      → Kept (row_of (act s i (turn s (get_or ops i no_op) (stage_of s i))) j) (row_of s j)
  act-kept lt =
      row-after s i _ lt (λ j r. ((row_of s j).code ≡ not_yet → ⊥) → Kept r (row_of s j))
      (λ n. ⊎_elim (λ q. same_kept _ _ q) (λ z. absurd (n z)) (i_tells lt).once) (λ j e n. (refl, refl))

  tick-kept : (j : ℕ) → Kept (row_of (tick s) j) (row_of s j)
  unfolding row_of
  tick-kept j = (refl, refl)

  pub step_kept : (j : ℕ) → ((row_of s j).code ≡ not_yet → ⊥) → Kept (row_of (step ops s i) j) (row_of s j)
  step_kept j n = step_case (λ t. Kept (row_of t j) (row_of s j)) ops s i (tick-kept j) (λ lt e. act-kept lt j n)

pub start_codes : (ops : List Op) (f : File) (m : ℕ) → Codes ops (start f m)
unfolding start stage_of row_of
start_codes ops f m =
    record {
      code = λ i l.
          subst (λ (r : Row). CodeAt f (get_or ops i no_op) r.code r.stage)
          (sym (get_or-replicate m i blank gone (let z = length-replicate m blank in omega arith))) refl;
    }
