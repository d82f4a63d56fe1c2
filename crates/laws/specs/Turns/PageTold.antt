-- Which page is told with an answer. An answer is given by one turn, and stays; and of that turn it is known what was read, what is held and which
-- page the call's own entry names.
use Prim.Native.Nat.{ℕ, suc, ◌+◌, ◌-◌, ◌<◌, ◌≤◌}
use Rattle.std.proofs.Math.Path.{◌≡◌, refl, sym, ap, subst}
use Rattle.std.proofs.Common.{◌∙◌}
use Rattle.std.proofs.Math.Logic.{by_cases}
use Rattle.std.specs.Prelude.{Option, None, Some, get_or}
use native.Mathlib.Omega.{arith}
use Rattle.std.proofs.Math.Decide.{ℕ_discrete, dec_lt}
use Rattle.std.proofs.Math.ListN.{length}
use Rattle.spec.specs.declared.Rec.{Rec}
use Rattle.spec.specs.declared.Op.{Op}
use Rattle.spec.specs.declared.Kind.TheVariants.{Search}
use Rattle.spec.specs.declared.Stage.{Stage}
use Rattle.spec.specs.declared.Task.TheVariants.{Decide, WritePage}
use Rattle.spec.specs.declared.Stage.TheVariants.{ReadPage, Reread, Held}
use Rattle.spec.specs.File.{File, page_at, entry_at, find_in}
use Rattle.spec.specs.Job.{Job, no_op, max_pages}
use Rattle.spec.specs.Code.{not_yet, found, not_found, stored}
use Rattle.spec.specs.State.{Row, State, Answer, same, answer}
use Rattle.spec.specs.Turn.{home_of, entry_of, rec_of}
use Rattle.spec.specs.Run.{file_after, code_after, charge_after, page_after, moment_after, row_of, stage_of, act, run}
use Rattle.spec.specs.Proper.{PageNo, Fit, FileOk}
use Rattle.spec.specs.Claims.{state_at, Stood, LastRead}
use Rattle.laws.specs.Turns.Prefix.{index_in}
use Rattle.laws.specs.Turns.Records.{find_has}
use Rattle.laws.specs.Turns.Rows.{row_of_same, code_row}
use Rattle.laws.specs.Turns.Good.{Fine}
use Rattle.laws.specs.Turns.Lookup.{lookup, lookup_at}
use Rattle.laws.specs.Turns.Says.{says-stored}
use Rattle.laws.specs.Turns.Does.{From, storing, deciding, writing, Own, sees, sees_none, says, Starts}
use Rattle.laws.specs.Turns.Coherent.{i_does}
use Rattle.laws.specs.Turns.States.{who, state_at_end, state_at_now, move_at, row_at}
use Rattle.laws.specs.Turns.Whole.{Whole, whole, end_whole, kept_on}
use Rattle.laws.specs.Turns.Fields.{unanswered}
use Rattle.laws.specs.Turns.InUse.{stays_in_use}

module _ (j : Job) where
  -- operation i was given the answer of code k, charge c, page x and moment m on turn t
  record Given (i k c x m t : ℕ) : Type 0 where
    within : t < length j.turns
    mine : who j t ≡ i
    row : i < length (state_at j t).rows
    after : state_at j (suc t) ≡ act (state_at j t) i (move_at j i t)
    said : (move_at j i t).answer ≡ answer k c x m

  -- the answer in the row r of operation i was given before time t
  abbrev Answered : ℕ → ℕ → Row → Type 0
  Answered t i r = (r.code ≡ not_yet → ⊥) → (u : ℕ) × (u < t) × Given i r.code r.charge r.page r.moment u

  later : {t i : ℕ} (r : Row) → Answered t i r → Answered (suc t) i r
  later r h n = let g = h n in (g.0, omega (arith, g.1), g.2)

  -- AN ANSWER WAS GIVEN on one of the turns so far
  given : (t : ℕ) → t ≤ length j.turns → (i : ℕ) → Answered t i (row_of (state_at j t) i)
  unfolding code_after charge_after page_after moment_after
  given =
      row_at j Answered (λ i. (λ n. absurd (n refl), λ n. absurd (n refl))) (λ t i h. later (row_of (state_at j t) i) h)
      (λ t l lt e h. own t (row_of (state_at j t) (who j t)) (move_at j (who j t) t).answer refl l lt e h)
    where
      own
          : (t : ℕ) (r : Row) (a : Answer)
          → (move_at j (who j t) t).answer ≡ a
          → t < length j.turns
          → who j t < length (state_at j t).rows
          → state_at j (suc t) ≡ act (state_at j t) (who j t) (move_at j (who j t) t)
          → Answered t (who j t) r
          → (code_after a r ≡ not_yet → ⊥)
          → (u : ℕ) × (u < suc t) × Given (who j t) (code_after a r) (charge_after a r) (page_after a r) (moment_after a r) u
      own t r same e l lt f h n = later r h n
      own t r (answer k c x m) e l lt f h n = (t, omega arith, record { within = l; mine = refl; row = lt; after = f; said = e })

  -- one that is to write page x has decided on it
  abbrev Decided : ℕ → Stage → Type 0
  Decided i st = (x : ℕ) → st ≡ Held x WritePage → (t : ℕ) × Stood j i (Held x Decide) t

  -- one that is to read its entry again has read page x on turn t, did not find its call there, and has read no page since, before time n
  record Missed (n i x t : ℕ) : Type 0 where
    read : Stood j i (ReadPage x) t
    none : find_in (page_at (state_at j t).file x).records (get_or j.ops i no_op).call ≡ None
    last : (y u : ℕ) → u < n → Stood j i (ReadPage y) u → u ≤ t

  abbrev Rereads : ℕ → ℕ → Stage → Type 0
  Rereads n i st = (x t : ℕ) → st ≡ Reread x t → Missed n i x t

  -- it reads no page on the next turn
  rereads_later : (n i : ℕ) → Rereads n i (stage_of (state_at j n) i) → Rereads (suc n) i (stage_of (state_at j n) i)
  rereads_later n i h x t e =
      let g = h x t e in
      record {
        read = g.read;
        none = g.none;
        last = λ y u l r.
            by_cases (dec_lt u n) (λ k. g.last y u k r)
            (λ k.
            let z : u ≡ n = omega arith in
            let clash : ReadPage y ≡ Reread x t = sym r.stage ∙ ap (λ v. stage_of (state_at j v) i) z ∙ e in
            let w : ◌≡◌ {A = ℕ} 0 1 = cc in
            absurd (omega arith));
      }

  module _ (ok : FileOk j.file) where
    -- what the stage says to which a turn leads
    begins
        : (t : ℕ)
        → t < length j.turns
        → (to : Stage)
        → (move_at j (who j t) t).stage ≡ to
        → Starts (state_at j t) (get_or j.ops (who j t) no_op) (stage_of (state_at j t) (who j t)) to
    begins t l to e =
        let w = whole j ok t (omega arith) in
        rw e at (i_does j.ops (state_at j t) (who j t) w.good w.coherent).starts

    decided : (t : ℕ) → t ≤ length j.turns → (i : ℕ) → Decided i (stage_of (state_at j t) i)
    unfolding stage_of
    decided =
        row_at j (λ t i r. Decided i r.stage)
        (λ i. (λ x e. let z : ◌≡◌ {A = ℕ} 0 1 = cc in absurd (omega arith), λ x e. let z : ◌≡◌ {A = ℕ} 0 1 = cc in absurd (omega arith)))
        (λ t i h. h)
        (λ t l lt f h x e. (t, record { within = l; named = refl; stage = begins t l (Held x WritePage) e }))

    rereads : (t : ℕ) → t ≤ length j.turns → (i : ℕ) → Rereads t i (stage_of (state_at j t) i)
    unfolding stage_of
    rereads =
        row_at j (λ t i r. Rereads t i r.stage)
        (λ i. (λ x t e. let z : ◌≡◌ {A = ℕ} 0 1 = cc in absurd (omega arith), λ x t e. let z : ◌≡◌ {A = ℕ} 0 1 = cc in absurd (omega arith)))
        rereads_later
        (λ t l lt f h x u e.
        let s = begins t l (Reread x u) e in
        let now : u ≡ t = s.1 ∙ state_at_now j t (omega arith) in
        rw now (record { read = record { within = l; named = refl; stage = s.0 }; none = s.2; last = λ y v k r. omega arith }))

-- an answer that is not "stored" is given on turn (d), or behind it
from-decided : {st : Stage} {k x : ℕ} {A : Type 0} → From st k x → (k ≡ stored → ⊥) → (st ≡ Held x Decide → A) → (st ≡ Held x WritePage → A) → A
from-decided storing n d w = absurd (n refl)
from-decided deciding n d w = d refl
from-decided writing n d w = w refl

-- what an answer says of its page x, where y is the page that the call's entry then names: it is in use
module _ {s : State} {st : Stage} {op : Op} {a b : Option Rec} {y : ℕ} where
  own_used
      : {k c x m : ℕ} (f : File)
      → Own s st op a b y (answer k c x m)
      → Fine s.file op st
      → s.file.used ≤ f.used
      → PageNo f y
      → PageNo f x
  own_used f (sees x r h z u e) fine l n = let p : PageNo s.file x = rw z at fine in (p.0, omega arith)
  own_used f (sees_none x t h z u e) fine l n = let p : PageNo s.file x = rw z at fine in (p.0, omega arith)
  own_used f (says h u w q) fine l n = rw u at n

  -- of an insert or a delete, it is that page, and the moment is now
  own_names : {k c x m : ℕ} → Own s st op a b y (answer k c x m) → (op.kind ≡ Search → ⊥) → (y ≡ x) × (m ≡ s.now)
  own_names (sees x r h z u e) n = absurd (n h)
  own_names (sees_none x t h z u e) n = absurd (n h)
  own_names (says h u w q) n = (u, refl)

  own_held : {k c x m : ℕ} → Own s st op a b y (answer k c x m) → k ≡ stored → (op.kind ≡ Search → ⊥) × (b ≡ Some (rec_of op))
  own_held (sees x r h z u e) n = absurd (omega arith)
  own_held (sees_none x t h z u e) n = absurd (omega arith)
  own_held (says h u w q) n = says-stored q n

  -- of a search, the page that it reads, or the one that it read and whose number its entry has
  own_finds
      : {k c x m : ℕ}
      → Own s st op a b y (answer k c x m)
      → k ≡ found
      → (st ≡ ReadPage x) × (find_in (page_at s.file x).records op.call ≡ Some (record { call = op.call; charge = c }))
  own_finds (sees x r h z u e) n = (z, u ∙ ap (λ i. Some (record { call = i; charge = r.charge })) (find_has _ op.call r u).1)
  own_finds (sees_none x t h z u e) n = absurd (omega arith)
  own_finds (says h u w q) n = absurd (omega arith)

  own_from : {k c x m : ℕ} → Own s st op a b y (answer k c x m) → (op.kind ≡ Search → ⊥) → From st k x
  own_from (sees x r h z u e) n = absurd (n h)
  own_from (sees_none x t h z u e) n = absurd (n h)
  own_from (says h u w q) n = w

  own_lacks : {k c x m : ℕ} → Own s st op a b y (answer k c x m) → k ≡ not_found → st ≡ Reread x m
  own_lacks (sees x r h z u e) n = absurd (omega arith)
  own_lacks (sees_none x t h z u e) n = z
  own_lacks (says h u w q) n = absurd (omega arith)

-- THE PAGE OF AN ANSWER, in the row of operation i at the end
module _ (j : Job) (ok : FileOk j.file) (i : ℕ) where
  abbrev op : Op
  op = get_or j.ops i no_op

  -- the row of operation i at the end
  abbrev row : Row
  row = row_of (run j) i

  -- NO ANSWER, NO PAGE
  pub untold : row.code ≡ not_yet → row.page ≡ 0
  untold = rw (← state_at_end j) (λ z. (unanswered j ok i (length j.turns) (omega arith) z).page)

  -- the turn that gave its answer, and what that turn did
  module _ (n : row.code ≡ not_yet → ⊥) where
    at-end : (u : ℕ) × (u < length j.turns) × Given j i row.code row.charge row.page row.moment u
    at-end = let h : Answered j (length j.turns) i row = rw (← state_at_end j) (given j (length j.turns) (omega arith) i) in h n

    abbrev u : ℕ
    u = at-end.0

    g : Given j i row.code row.charge row.page row.moment u
    g = at-end.2

    abbrev s : State
    s = state_at j u

    abbrev f : File
    f = file_after (move_at j i u) s.file

    w : Whole j s
    w = whole j ok u (omega (arith, g.within))

    own
        : Own s (stage_of s i) op (lookup s.file op.call) (lookup f op.call) (entry_at f (home_of s.file op))
        (answer row.code row.charge row.page row.moment)
    own = rw (← g.said) (i_does j.ops s i w.good w.coherent).own

    file-after : (state_at j (suc u)).file ≡ f
    file-after = ap (λ (z : State). z.file) g.after

    fit : Fit f
    fit = rw file-after at (whole j ok (suc u) g.within).good.fit

    -- THE PAGE TOLD IS IN USE, to the end
    pub told-used : PageNo (run j).file row.page
    unfolding home_of entry_at
    told-used =
        subst (λ (z : State). PageNo z.file row.page) (state_at_end j)
        (stays_in_use j (suc u) (length j.turns) row.page g.within (omega arith)
        (rw file-after (own_used f own (w.good.fine i) (omega arith) (fit.entries _ (index_in f fit op.call)))))

    -- the file after the turn of its moment
    file-then : (m : ℕ) → row.moment ≡ m → (op.kind ≡ Search → ⊥) → (state_at j (suc m)).file ≡ f
    file-then m e k =
        ap (λ t. (state_at j (suc t)).file) (sym e ∙ (own_names own k).1 ∙ state_at_now j u (omega (arith, g.within))) ∙ file-after

    -- THE CALL'S ENTRY NAMES IT at the moment of an insert or a delete
    pub told_named : (m : ℕ) → row.moment ≡ m → (op.kind ≡ Search → ⊥) → entry_of (state_at j (suc m)).file op ≡ row.page
    unfolding entry_of home_of
    told_named m e k = rw (file-then m e k) (own_names own k).0

    -- A STORED INSERT'S PAGE HOLDS THE CALL at its moment
    pub told-held
        : (m : ℕ)
        → row.moment ≡ m
        → row.code ≡ stored
        → find_in (page_at (state_at j (suc m)).file row.page).records op.call ≡ Some (rec_of op)
    unfolding entry_of home_of
    told-held m e z =
        let h = own_held own z in
        sym (lookup_at (state_at j (suc m)).file op.call row.page (told_named m e h.0)) ∙ rw (file-then m e h.0) h.1

    -- no page is read once there is an answer
    code-then : (row_of (state_at j (suc u)) i).code ≡ row.code
    unfolding code_after
    code-then =
        ap (λ (z : State). (row_of z i).code) g.after
        ∙ ap (λ (r : Row). r.code) (row_of_same s i (move_at j i u) g.row)
        ∙ ap (λ a. code_after a (row_of s i)) g.said

    none_later : (y v : ℕ) → Stood j i (ReadPage y) v → v ≤ u
    none_later y v r =
        by_cases (dec_lt u v)
        (λ k.
        let e : suc u + (v - suc u) ≡ v = omega arith in
        let kept = rw e at (kept_on j ok i (suc u) (v - suc u) (omega (arith, r.within)) (λ z. n (sym code-then ∙ z))) in
        let m : (row_of (state_at j v) i).code ≡ not_yet → ⊥ = λ z. n (sym code-then ∙ sym kept.0 ∙ z) in
        let c = (whole j ok v (omega (arith, r.within))).codes.code i (code_row (state_at j v) i m) in
        absurd (m (rw r.stage at c)))
        (λ k. omega arith)

    -- A FOUND SEARCH READ THE PAGE LAST, and it held the call with the charge told
    pub told-read
        : row.code ≡ found
        → (t : ℕ)
        × LastRead j i row.page t
        × (find_in (page_at (state_at j t).file row.page).records op.call ≡ Some (record { call = op.call; charge = row.charge }))
    told-read e =
        let h = own_finds own e in
        (u, record { read = record { within = g.within; named = g.mine; stage = h.0 }; last = none_later }, h.1)

    -- A SEARCH THAT FOUND NONE READ THE PAGE LAST at its moment, and the call was not there
    pub told_missed
        : (m : ℕ)
        → row.moment ≡ m
        → row.code ≡ not_found
        → LastRead j i row.page m × (find_in (page_at (state_at j m).file row.page).records op.call ≡ None)
    told_missed m e z =
        let h = rereads_later j u i (rereads j ok u (omega (arith, g.within)) i) row.page row.moment (own_lacks own z) in
        rw (← e) (record { read = h.read; last = λ y v r. h.last y v (omega (arith, none_later y v r)) r }, h.none)

    -- THE REST READ THE PAGE ON TURN (d)
    pub told-decided : (op.kind ≡ Search → ⊥) → (row.code ≡ stored → ⊥) → (t : ℕ) × Stood j i (Held row.page Decide) t
    told-decided k z =
        from-decided (own_from own k) z
        (λ (e : stage_of s i ≡ Held row.page Decide). (u, record { within = g.within; named = g.mine; stage = e }))
        (λ e. decided j ok u (omega (arith, g.within)) i row.page e)

  -- so it has a byte, less one
  pub page-small : row.page ≤ max_pages
  page-small =
      let w = end_whole j ok in
      by_cases (ℕ_discrete row.code not_yet) (λ z. omega (arith, untold z)) (λ n. omega (arith, (told-used n).1, w.good.fit.within, w.good.fit.most))
