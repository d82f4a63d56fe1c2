-- What the turns of a split do: each new page written, each entry written, the new pages unlocked, and the old page written.
use Prim.Native.Nat.{ℕ, suc, ◌+◌, ◌-◌, ◌^◌, ◌<◌, ◌≤◌}
use Rattle.std.specs.Prelude.{◌≡◌, List, ◌∷◌, Some}
use Rattle.std.proofs.Math.Path.{refl, sym}
use Rattle.std.proofs.Common.{ap, ◌∙◌, arith}
use Rattle.std.proofs.Math.Logic.{inl, inr, by_cases}
use Rattle.std.proofs.Math.Bool.{false}
use Rattle.std.proofs.Math.Decide.{ℕ_discrete, dec_lt}
use Rattle.std.proofs.Math.ListN.{length, get_or}
use borrow.Author.Tests.{eqb-true, eqb-false, ltb-false}
use Rattle.spec.specs.declared.Rec.{Rec}
use Rattle.spec.specs.declared.Op.{Op}
use Rattle.spec.specs.declared.Task.TheVariants.{WriteOld}
use Rattle.spec.specs.declared.Part.TheVariants.{WriteNew, WriteEntry, UnlockNew}
use Rattle.spec.specs.declared.Stage.{Stage}
use Rattle.spec.specs.declared.Stage.TheVariants.{Held, Split, Done}
use Rattle.spec.specs.Basics.{Each}
use Rattle.spec.specs.Key.{index}
use Rattle.spec.specs.File.{Page, File, zero_page, page_at, entry_at, find_in}
use Rattle.spec.specs.Split.{Grown}
use Rattle.spec.specs.State.{State, same, Move, go_lock, go_page, go_entry}
use Rattle.spec.specs.Turn.{home_of, rec_of, plan_of, new_count, goes_to, old_written, entries_from, split_turn}
use Rattle.spec.specs.Run.{table_after, directory_after, file_after}
use Rattle.spec.specs.Proper.{In, PageNo}
use Rattle.laws.specs.Tools.{if_case, first, rest, each_at}
use Rattle.laws.specs.Turns.Prefix.{index_in}
use Rattle.laws.specs.Turns.Records.{found_in}
use Rattle.laws.specs.Turns.Grow.{Serves}
use Rattle.laws.specs.Turns.Pages.{Made}
use Rattle.laws.specs.Turns.Plans.{plan_same, goes_same, goes_any, Passed, entries_case}
use Rattle.laws.specs.Turns.Good.{Planned, FinePart, Good, page-lt}
use Rattle.laws.specs.Turns.Work.{Plan, Moving, Written, WorkPart, plan_after, moving_after}
use Rattle.laws.specs.Turns.Lookup.{lookup, lookup_at, page-not, page_dir, page_same, page_lookup, page_own, entry-not, entry-page, entry_same, entry_home, entry_lookup, entry_own}
use Rattle.laws.specs.Turns.SplitPlan.{made, serves, stays_old, old_stays, goes_new}
use Rattle.laws.specs.Turns.Says.{is_stored}
use Rattle.laws.specs.Turns.Does.{Own, quiet, says, storing, Coherent, fresh, StartsPart, Does}
use Rattle.laws.specs.Turns.PageTurns.{calm, put}

module _ (ops : List Op) (s : State) (op : Op) (good : Good ops s) (coherent : Coherent ops s) where
  abbrev f : File
  f = s.file

  abbrev D : Stage → Move → Type 0
  D st m = Does s op st m

  home_lt : home_of f op < 2 ^ f.g
  unfolding home_of
  home_lt = index_in f good.fit op.call

  -- an operation that splits page x
  module _ (x : ℕ) (no : PageNo f x) (pl : Plan f op x) where
    plan_made : Each (Made f.g f.c (rec_of op)) ((plan_of f op x).old ∷ (plan_of f op x).news)
    plan_made = made f op x good.fit (coherent.pages x) pl

    plan_serves : Each (Serves (page_at f x) (rec_of op)) ((plan_of f op x).old ∷ (plan_of f op x).news)
    plan_serves = serves f op x good.fit (coherent.pages x) pl

    pub old_does : Moving f op x (2 ^ f.g) → D (Held x WriteOld) (old_written s op x)
    unfolding old_written home_of
    old_does mv =
        put ops s op good coherent x _ no.1 (first plan_made).ok into (λ k n d. (first plan_serves).kept k (into k d) n)
        (if_case (Own s _ op (lookup f op.call) (lookup (file_after (go_page Done same x (plan_of f op x).old) f) op.call) (entry_at f (home_of f op)))
        (λ e.
        let d = mv.stays (eqb-true _ _ e) in
        says (omega arith) d storing
        (is_stored pl.kind (lookup_at f op.call x d ∙ pl.absent)
        (page_own f x _ lt op.call d ∙ (first plan_made).there (into op.call d))))
        (λ e. quiet (page_lookup f x _ lt op.call (λ d. absurd (eqb-false _ _ e (stays op.call d))))))
        (inr (λ k r u n. sub k r u n))
        tt
        tt
      where
        lt : x < length f.table
        lt = page-lt f good.fit x no.1

        stays : (k : ℕ) → entry_at f (index f.g k) ≡ x → goes_to f op x 0 (index f.g k) ≡ 0
        stays k d = mv.settled _ (index_in f good.fit k) d

        into : (k : ℕ) → entry_at f (index f.g k) ≡ x → In (plan_of f op x).old k
        into k d = stays_old f op x good.fit (coherent.pages x) pl k (rw d at (coherent.home k)) (stays k d)

        sub
            : (k : ℕ) (r : Rec)
            → find_in (plan_of f op x).old.records k ≡ Some r
            → (entry_at f (index f.g k) ≡ x → ⊥)
            → find_in (page_at f x).records k ≡ Some r
        sub k r u n =
            by_cases (ℕ_discrete k op.call)
            (λ (z : k ≡ op.call). absurd (n (rw z (mv.stays (rw z at (old_stays f op x good.fit (coherent.pages x) pl k i))))))
            (λ z. sym ((first plan_serves).kept k i z) ∙ u)
          where
            i : In (plan_of f op x).old k
            i = found_in (plan_of f op x).old k r (first plan_made).ok.homed u

    -- the work that is left from entry j on, after a move m that leaves page x and them
    entries-work
        : (m : Move) (b n j : ℕ)
        → page_at (file_after m f) x ≡ page_at f x
        → Written (file_after m f) op x b n
        → ((e : ℕ) → j ≤ e → entry_at (file_after m f) e ≡ entry_at f e)
        → ((e : ℕ) → e < j → entry_at (file_after m f) e ≡ x → goes_to f op x 0 e ≡ 0)
        → (goes_to f op x 0 (home_of f op) ≡ 0 → entry_at (file_after m f) (home_of f op) ≡ x)
        → (j ≤ home_of f op → entry_at (file_after m f) (home_of f op) ≡ x)
        → WorkPart (file_after m f) op x b n (entries_from f op x b j)
    unfolding home_of
    entries-work m b n j pg wr dr st hm ah =
        entries_case (WorkPart (file_after m f) op x b n) f op x b j
        (λ k h. (wr, dr k h.from ∙ h.names, h.within, moving k h.passed (λ q. omega (arith, h.from))))
        (λ h. (wr, moving (2 ^ f.g) h (λ q. absurd (omega (arith, home_lt)))))
      where
        moving : (c : ℕ) → Passed f op x j c → (c ≤ home_of f op → j ≤ home_of f op) → Moving (file_after m f) op x c
        moving c p v =
            record {
              settled = λ i q d.
                  goes_same f m op x pg 0 i
                  ∙ by_cases (dec_lt i j) (λ l. st i l d) (λ l. p i (omega arith) q (sym (dr i (omega arith)) ∙ d));
              stays = λ z. hm (sym (goes_same f m op x pg 0 _) ∙ z);
              ahead = λ q. ah (v q);
            }

    entries-start : (st : Stage) (b n j : ℕ) → StartsPart s st b n (entries_from f op x b j)
    entries-start st b n j = entries_case (StartsPart s st b n) f op x b j (λ k h. tt) (λ h. tt)

    -- a new page is written: no entry names it yet
    pub new_does
        : (b n i : ℕ)
        → Planned f op x b n
        → FinePart f op x b n (WriteNew i)
        → WorkPart f op x b n (WriteNew i)
        → D (Split x b n (WriteNew i)) (split_turn s op x b n (WriteNew i))
    unfolding split_turn home_of new_count
    new_does b n i pn fi w =
        put ops s op good coherent (b + i) q (omega (arith, pn.top)) (each_at _ (i - 1) zero_page (omega (arith, pn.count)) (rest plan_made)).ok
        (λ k d. absurd (w.2 (index f.g k) (omega arith))) (λ k n d. absurd (w.2 (index f.g k) (omega arith)))
        (quiet (page_lookup f (b + i) q lt op.call (λ d. absurd (w.2 (home_of f op) (omega arith)))))
        (inl (fresh (omega arith))) (
          plan_after f m op x pg pl,
          if_case (WorkPart (file_after m f) op x b n)
              (λ e. (page_dir f (b + i) q _ ∙ w.0, λ k l. wr k (omega arith), λ e z. w.2 e (rw (page_dir f (b + i) q e) at z)))
              (λ e.
              entries-work m b n 0 pg (λ k l. let z = ltb-false i n e in wr k (omega arith)) (λ e l. page_dir f (b + i) q e)
              (λ e l. absurd (omega arith)) (λ z. page_dir f (b + i) q _ ∙ w.0) (λ z. page_dir f (b + i) q _ ∙ w.0)),
        )
        (if_case (StartsPart s (Split x b n (WriteNew i)) b n) (λ e p z. inl (fresh z)) (λ e. entries-start (Split x b n (WriteNew i)) b n 0))
      where
        q : Page
        q = get_or (plan_of f op x).news (i - 1) zero_page

        m : Move
        m = go_page Done same (b + i) q

        lt : b + i < length f.table
        lt = page-lt f good.fit (b + i) (omega (arith, pn.top))

        pg : page_at (file_after m f) x ≡ page_at f x
        pg = page-not f (b + i) q x (λ e. omega (arith, pn.below))

        wr : Written (file_after m f) op x b i
        wr k l =
            by_cases (dec_lt (suc k) i) (λ h. page-not f (b + i) q (suc b + k) (λ e. omega arith) ∙ w.1 k h)
            (λ h.
            let e : suc b + k ≡ b + i = omega arith in
            let z : i - 1 ≡ k = omega arith in
            ap (page_at (file_after m f)) e ∙ page_same f (b + i) q lt ∙ ap (λ j. get_or (plan_of f op x).news j zero_page) z)
            ∙ ap (λ (t : Grown). get_or t.news k zero_page) (sym (plan_same f m op x pg))

    -- an entry is written: the page that it comes to name holds of its calls what page x holds
    pub entry_does
        : (b n j : ℕ)
        → Planned f op x b n
        → FinePart f op x b n (WriteEntry j)
        → WorkPart f op x b n (WriteEntry j)
        → D (Split x b n (WriteEntry j)) (split_turn s op x b n (WriteEntry j))
    unfolding split_turn home_of new_count goes_to
    entry_does b n j pn fi w =
        record {
          single = inr refl;
          turns = (inl w.1, inr (omega (arith, o.1, o.2)));
          pages = λ z. rw (entry-page f j y z) (coherent.pages z);
          home = λ k. entry_home f j y lt (λ p. In p k) k (coherent.home k) (λ e. rw pgy (o.3 k e));
          work = (plan_after f m op x pg pl, entries-work m b n (suc j) pg wr dr st hm ah);
          others = λ k z. entry_lookup f j y lt k (λ e. finds k ∙ served.kept k (o.3 k e) z ∙ rw w.1 refl);
          own =
              if_case (Own s _ op (lookup f op.call) (lookup (file_after m f) op.call) (entry_at (file_after m f) (home_of f op)))
              (λ e.
              let z : home_of f op ≡ j = sym (eqb-true _ _ e) in
              says (omega arith) (rw z (entry_same f j y lt)) storing
              (is_stored pl.kind (lookup_at f op.call x (rw z w.1) ∙ pl.absent)
              (entry_own f j y lt op.call z ∙ finds op.call ∙ there.there (o.3 op.call z))))
              (λ e. quiet (entry_lookup f j y lt op.call (λ z. absurd (eqb-false _ _ e (sym z)))));
          sub = tt;
          rises = (omega (arith, w.1, o.2, pn.below), rw w.1 pl.absent, lt);
          starts = entries-start (Split x b n (WriteEntry j)) b n (suc j);
        }
      where
        y : ℕ
        y = goes_to f op x b j

        m : Move
        m = go_entry Done same j y

        lt : j < length f.directory
        lt = omega (arith, good.fit.size, w.2)

        o : (i : ℕ) × (i < n) × (y ≡ suc b + i) × ((k : ℕ) → index f.g k ≡ j → In (get_or (plan_of f op x).news i zero_page) k)
        o = goes_new f op x good.fit (coherent.pages x) pl b n j pn.count fi

        q : Page
        q = get_or (plan_of f op x).news o.0 zero_page

        there : Made f.g f.c (rec_of op) q
        there = each_at _ o.0 zero_page (omega (arith, o.1, pn.count)) (rest plan_made)

        served : Serves (page_at f x) (rec_of op) q
        served = each_at _ o.0 zero_page (omega (arith, o.1, pn.count)) (rest plan_serves)

        pgy : page_at f y ≡ q
        pgy = ap (page_at f) o.2 ∙ w.0 o.0 o.1

        finds : (k : ℕ) → find_in (page_at f y).records k ≡ find_in q.records k
        finds k = ap (λ (p : Page). find_in p.records k) pgy

        pg : page_at (file_after m f) x ≡ page_at f x
        pg = entry-page f j y x

        wr : Written (file_after m f) op x b n
        wr k l = entry-page f j y _ ∙ w.0 k l ∙ ap (λ (t : Grown). get_or t.news k zero_page) (sym (plan_same f m op x pg))

        dr : (e : ℕ) → suc j ≤ e → entry_at (file_after m f) e ≡ entry_at f e
        dr e l = entry-not f j y e (λ z. omega arith)

        st : (e : ℕ) → e < suc j → entry_at (file_after m f) e ≡ x → goes_to f op x 0 e ≡ 0
        st e l d =
            by_cases (ℕ_discrete e j)
            (λ (z : e ≡ j). let u : y ≡ x = sym (entry_same f j y lt) ∙ (rw z at d) in absurd (omega (arith, o.2, pn.below)))
            (λ z. w.3.settled e (omega arith) (sym (entry-not f j y e z) ∙ d))

        hm : goes_to f op x 0 (home_of f op) ≡ 0 → entry_at (file_after m f) (home_of f op) ≡ x
        hm z =
            by_cases (ℕ_discrete (home_of f op) j) (λ (u : home_of f op ≡ j). absurd (fi (goes_any f op x 0 b j (rw u at z))))
            (λ u. entry-not f j y _ u ∙ w.3.stays z)

        ah : suc j ≤ home_of f op → entry_at (file_after m f) (home_of f op) ≡ x
        ah l = entry-not f j y _ (λ z. omega arith) ∙ w.3.ahead (omega arith)

    pub unlock_does : (b n : ℕ) → Moving f op x (2 ^ f.g) → D (Split x b n UnlockNew) (split_turn s op x b n UnlockNew)
    unfolding split_turn page_at entry_at table_after directory_after
    unlock_does b n w =
        let m = go_lock Done 0 0 false 0 in
        calm ops s op good coherent (plan_after f m op x refl pl, moving_after f m op x _ refl (λ e d. d) (λ e d. d) w) (quiet refl) tt
