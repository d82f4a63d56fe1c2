-- What the turns do that write nothing, and those that write one page: reading, deciding, and the writing of an insert with room or a delete.
use Rattle.std.specs.Prelude.{ℕ, ◌<◌, ◌≤◌, ◌≡◌, List, Bool, length, Option, None, Some}
use Rattle.std.proofs.Math.Path.{refl, sym}
use Rattle.std.proofs.Common.{◌∙◌, arith}
use Rattle.std.proofs.Math.Logic.{inl, inr, by_cases}
use Rattle.std.proofs.Math.Decide.{ℕ_discrete, dec_lt}
use Rattle.std.proofs.Math.ListN.{get_or-eq_default}
use Rattle.spec.specs.declared.Rec.{Rec}
use Rattle.spec.specs.declared.Op.{Op}
use Rattle.spec.specs.declared.Kind.{Kind}
use Rattle.spec.specs.declared.Kind.TheVariants.{Search, Insert, Delete}
use Rattle.spec.specs.declared.Task.TheVariants.{Decide, WritePage}
use Rattle.spec.specs.declared.Stage.{Stage}
use Rattle.spec.specs.declared.Stage.TheVariants.{NotBegun, ReadPage, Held}
use Rattle.spec.specs.Key.{index}
use Rattle.spec.specs.File.{Page, File, page_at, entry_at, find_in, found_of}
use Rattle.spec.specs.Code.{deleted}
use Rattle.spec.specs.Split.{added}
use Rattle.spec.specs.State.{State, Answer, same, Move, go, go_page}
use Rattle.spec.specs.Turn.{home_of, rec_of, begin, looked, looked_at, cleared, written}
use Rattle.spec.specs.Run.{table_after, directory_after, file_after}
use Rattle.spec.specs.Proper.{In, PageNo, PageOk}
use Rattle.laws.specs.Turns.Prefix.{fit_32}
use Rattle.laws.specs.Turns.Records.{without_own, without_other}
use Rattle.laws.specs.Turns.CallsRise.{put_other, put_own}
use Rattle.laws.specs.Turns.Shared.{not-all_share}
use Rattle.laws.specs.Turns.Pages.{added_ok, cleared_ok}
use Rattle.laws.specs.Turns.Rows.{still}
use Rattle.laws.specs.Turns.Good.{Good, page-lt}
use Rattle.laws.specs.Turns.Work.{WorkTask, Work}
use Rattle.laws.specs.Turns.Lookup.{lookup, lookup_at, page-not, page_dir, page_same, page_home, page_lookup, page_own}
use Rattle.laws.specs.Turns.Says.{is_stored, is_deleted}
use Rattle.laws.specs.Turns.Does.{Own, quiet, sees, says, storing, deciding, writing, Coherent, Starts, Sub, Does}
use Rattle.laws.specs.Turns.Decision.{Decision, searching, refused_missing, refused_there, to_store, to_strike, to_split}

module _ (ops : List Op) (s : State) (op : Op) (good : Good ops s) (coherent : Coherent ops s) where
  abbrev f : File
  f = s.file

  abbrev D : Stage → Move → Type 0
  D st m = Does s op st m

  -- a turn that writes neither a page nor an entry
  pub calm
      : {st to : Stage} {a : Answer} {x n t : ℕ} {v : Bool}
      → Work (file_after (still to a x n v t) f) op to
      → Own s st op (lookup f op.call) (lookup f op.call) (entry_at f (home_of f op)) a
      → Starts s op st to
      → D st (still to a x n v t)
  unfolding lookup page_at entry_at table_after directory_after
  calm w o z =
      record {
        single = inl refl;
        turns = tt;
        rises = tt;
        sub = tt;
        starts = z;
        pages = coherent.pages;
        home = coherent.home;
        work = w;
        others = λ k n. refl;
        own = o;
      }

  pub begin_does : (k : Kind) (x : ℕ) → op.kind ≡ k → entry_at f (home_of f op) ≡ x → D NotBegun (go (begin k x) same)
  unfolding begin
  begin_does Search x e h = calm e (quiet refl) h
  begin_does Insert x e h = calm tt (quiet refl) tt
  begin_does Delete x e h = calm tt (quiet refl) tt

  pub looked_does
      : (x : ℕ) (o : Option Rec)
      → op.kind ≡ Search
      → find_in (page_at f x).records op.call ≡ o
      → D (ReadPage x) (looked s op (found_of x o))
  unfolding looked_at
  looked_does x None e h = calm e (quiet refl) (refl, refl, h)
  looked_does x (Some r) e h = calm tt (sees x r e refl h refl) tt

  dir_top : (e : ℕ) → entry_at f e ≤ f.used
  unfolding entry_at
  dir_top e =
      by_cases (dec_lt e (length f.directory)) (λ l. (good.fit.entries e (omega (arith, good.fit.size))).1)
      (λ l. rw (get_or-eq_default f.directory 0 {n = e} (omega arith)) (omega arith))

  not_both : op.kind ≡ Insert → op.kind ≡ Delete → ⊥
  not_both p q = let z : ◌≡◌ {A = ℕ} 0 1 = cc in omega arith

  -- a turn that writes page y as q
  pub put
      : {st to : Stage} {a : Answer} (y : ℕ) (q : Page)
      → y ≤ f.used
      → PageOk f.g f.c q
      → ((k : ℕ) → entry_at f (index f.g k) ≡ y → In q k)
      → ((k : ℕ) → (k ≡ op.call → ⊥) → entry_at f (index f.g k) ≡ y → find_in q.records k ≡ find_in (page_at f y).records k)
      → Own s st op (lookup f op.call) (lookup (file_after (go_page to a y q) f) op.call) (entry_at f (home_of f op)) a
      → Sub f st (Some (record { number = y; page = q }))
      → Work (file_after (go_page to a y q) f) op to
      → Starts s op st to
      → D st (go_page to a y q)
  put {to} {a} y q l ok cov oth own sub w z =
      record {
        single = inl refl;
        turns = tt;
        rises = tt;
        sub = sub;
        starts = z;
        pages = all;
        home = λ k. page_home f y q lt (λ p. In p k) k (coherent.home k) (cov k);
        work = w;
        others = λ k n. page_lookup f y q lt k (oth k n);
        own = rw (page_dir f y q (home_of f op)) own;
      }
    where
      lt : y < length f.table
      lt = page-lt f good.fit y l

      all : (x : ℕ) → PageOk f.g f.c (page_at (file_after (go_page to a y q) f) x)
      all x =
          by_cases (ℕ_discrete x y) (λ (e : x ≡ y). rw (e, page_same f y q lt) ok) (λ e. rw (page-not f y q x e) (coherent.pages x))

  -- the operation holds x, which its entry names
  module _ (x : ℕ) (at : entry_at f (home_of f op) ≡ x) where
    here : lookup f op.call ≡ find_in (page_at f x).records op.call
    unfolding home_of
    here = lookup_at f op.call x at

    mine : In (page_at f x) op.call
    unfolding home_of
    mine = rw at at (coherent.home op.call)

    pub decided_does
        : {o : Option Rec} {m : Move}
        → find_in (page_at f x).records op.call ≡ o
        → Decision s op x o m
        → D (Held x Decide) m
    unfolding home_of entry_at page_at table_after directory_after
    decided_does h (searching e) = calm tt (quiet refl) tt
    decided_does h (refused_missing l y) = calm tt (says (omega arith) at deciding (rw (here ∙ h) y)) tt
    decided_does h (refused_there l y) = calm tt (says (omega arith) at deciding (rw (here ∙ h) y)) tt
    decided_does h (to_store i l) = calm (at, λ k. (h, l), λ k. absurd (not_both i k)) (quiet refl) refl
    decided_does h (to_strike {r} e t) = calm (at, λ k. absurd (not_both k e), λ k. (r, h, t)) (quiet refl) refl
    decided_does h (to_split i l d u) =
        calm (
          record { kind = i; here = mine; absent = h; depth = not-all_share f.g _ op.call (fit_32 f good.fit) d },
          (at, λ m l. absurd (omega arith), λ e w. let t = dir_top e in omega arith),
        )
        (quiet refl)
        (λ p w. inr (omega arith))

    in-x : (k : ℕ) → entry_at f (index f.g k) ≡ x → In (page_at f x) k
    in-x k e = rw e at (coherent.home k)

    pub written_does
        : (k : Kind)
        → op.kind ≡ k
        → PageNo f x
        → WorkTask f op x WritePage
        → D (Held x WritePage) (written s op x k (page_at f x))
    unfolding written added cleared home_of
    written_does Search e l w = calm tt (quiet refl) tt
    written_does Insert e l w =
        let h = w.1 e in
        put x _ l.1 (added_ok f.g f.c (page_at f x) (rec_of op) (coherent.pages x) mine h.1 h.0) in-x
        (λ k n d. put_other (page_at f x).records (rec_of op) k n)
        (says (omega arith) at storing
        (is_stored e (here ∙ h.0)
        (page_own f x _ (page-lt f good.fit x l.1) op.call at ∙ put_own (page_at f x).records (rec_of op) h.0)))
        (inr (λ k r u n. sym (put_other (page_at f x).records (rec_of op) k (λ z. n (rw z at))) ∙ u))
        tt
        tt
    written_does Delete e l w =
        let h = w.2 e in
        put x _ l.1 (cleared_ok f.g f.c (page_at f x) op.call (coherent.pages x)) in-x
        (λ k n d. without_other (page_at f x).records op.call k n)
        (rw h.1
        (says {k = deleted} (omega arith) at writing
        (is_deleted h.0 e (here ∙ h.1) h.2
        (page_own f x _ (page-lt f good.fit x l.1) op.call at ∙ without_own (page_at f x).records op.call))))
        (inr (λ k r u n. sym (without_other (page_at f x).records op.call k (λ z. n (rw z at))) ∙ u))
        tt
        tt
