-- Mutual exclusion: every locked page has exactly one operation that holds it, and a move that locks or unlocks as its stage says keeps that.
use Rattle.std.specs.Prelude.{ℕ, suc, ◌<◌, ◌≡◌, ◌⊎◌, List, Bool, true, false, length}
use Rattle.std.proofs.Common.{sym, ◌∙◌, inl, inr, ⊎_elim, true≢false}
use Rattle.std.proofs.Math.Logic.{by_cases}
use Rattle.std.proofs.Math.Decide.{ℕ_discrete}
use Rattle.spec.specs.declared.Stage.{Stage}
use Rattle.spec.specs.declared.Stage.TheVariants.{NotBegun, ReadPage, Reread, Lock, Held, Split, Done}
use Rattle.spec.specs.State.{State, Move}
use Rattle.spec.specs.Run.{stage_of, act}
use Rattle.laws.specs.Turns.Ranges.{Span, fill_out, fill_in, Locked, locked_was, locked_on}
use Rattle.laws.specs.Turns.Rows.{stage_of_other, stage_of_same}

-- an operation at this stage holds page p
abbrev pub Holds : Stage → ℕ → Type 0
Holds NotBegun p = ⊥
Holds (ReadPage x) p = ⊥
Holds (Reread x t) p = ⊥
Holds (Lock x) p = ⊥
Holds (Held x t) p = p ≡ x
Holds (Split x b n q) p = (p ≡ x) ⊎ Span (suc b) n p
Holds Done p = ⊥

-- each locked page has a holder, each page held is locked, and no two operations hold one
pub record Locks (s : State) : Type 0 where
  pub holder : (p : ℕ) → Locked s.locks p → (i : ℕ) × Holds (stage_of s i) p
  pub locked : (i p : ℕ) → Holds (stage_of s i) p → Locked s.locks p
  pub apart : (i j p : ℕ) → Holds (stage_of s i) p → Holds (stage_of s j) p → i ≡ j

-- a turn that locks n pages from a on goes from stage st to stage to
pub record Grants (l : List Bool) (a n : ℕ) (st to : Stage) : Type 0 where
  pub keeps : (p : ℕ) → Holds st p → Holds to p
  pub gets : (p : ℕ) → Span a n p → Holds to p
  pub only : (p : ℕ) → Holds to p → Holds st p ⊎ Span a n p
  pub closed : (p : ℕ) → Span a n p → Locked l p → ⊥
  pub there : (p : ℕ) → Span a n p → p < length l

-- a turn that unlocks them
pub record Frees (a n : ℕ) (st to : Stage) : Type 0 where
  pub keeps : (p : ℕ) → Holds st p → (Span a n p → ⊥) → Holds to p
  pub only : (p : ℕ) → Holds to p → Holds st p
  pub gone : (p : ℕ) → Holds to p → Span a n p → ⊥
  pub own : (p : ℕ) → Span a n p → Holds st p

abbrev pub Rule : Bool → List Bool → ℕ → ℕ → Stage → Stage → Type 0
Rule true l a n st to = Grants l a n st to
Rule false l a n st to = Frees a n st to

module _ (s : State) (i : ℕ) (m : Move) (fits : i < length s.rows) (o : Locks s) where
  -- what operation j holds after the turn
  after : (j p : ℕ) → Holds (stage_of (act s i m) j) p → ((j ≡ i) × Holds m.stage p) ⊎ ((j ≡ i → ⊥) × Holds (stage_of s j) p)
  after j p h =
      by_cases (ℕ_discrete j i) (λ e. inl (e, rw (e, stage_of_same s i m fits) at h)) (λ e. inr (e, rw (stage_of_other s i j m e) at h))

  now_i : (p : ℕ) → Holds m.stage p → Holds (stage_of (act s i m) i) p
  now_i p h = rw (stage_of_same s i m fits) h

  now_j : (j p : ℕ) → (j ≡ i → ⊥) → Holds (stage_of s j) p → Holds (stage_of (act s i m) j) p
  now_j j p e h = rw (stage_of_other s i j m e) h

  -- whoever held the page still does, if i does where it was i
  still_held : (p : ℕ) → (Holds (stage_of s i) p → Holds m.stage p) → Locked s.locks p → (j : ℕ) × Holds (stage_of (act s i m) j) p
  still_held p f l =
      (w.0, by_cases (ℕ_discrete w.0 i) (λ e. rw e (now_i p (f (rw e at w.1)))) (λ e. now_j w.0 p e w.1))
    where
      w : (j : ℕ) × Holds (stage_of s j) p
      w = o.holder p l

  -- two hold one page after the turn: enough that no other held what i holds now
  still_apart
      : ((j p : ℕ) → (j ≡ i → ⊥) → Holds m.stage p → Holds (stage_of s j) p → ⊥)
      → (j k p : ℕ)
      → Holds (stage_of (act s i m) j) p
      → Holds (stage_of (act s i m) k) p
      → j ≡ k
  still_apart f j k p hj hk =
      ⊎_elim (λ a. ⊎_elim (λ b. cc) (λ b. absurd (f k p b.0 a.1 b.1)) (after k p hk))
      (λ a. ⊎_elim (λ b. absurd (f j p a.0 b.1 a.1)) (λ b. o.apart j k p a.1 b.1) (after k p hk))
      (after j p hj)

  granted : m.value ≡ true → Grants s.locks m.from m.count (stage_of s i) m.stage → Locks (act s i m)
  granted e r =
      record {
        holder = λ p h.
            ⊎_elim (λ w. (i, now_i p (r.gets p w.0))) (λ w. still_held p (r.keeps p) w.1)
            (locked_was s.locks m.from m.count p m.value h);
        locked = λ j p h.
            ⊎_elim (λ w. ⊎_elim (λ k. on p (o.locked i p k)) (λ k. new p k) (r.only p w.1)) (λ w. on p (o.locked j p w.1))
            (after j p h);
        apart = still_apart (λ j p n h k. ⊎_elim (λ w. n (o.apart j i p k w)) (λ w. r.closed p w (o.locked j p k)) (r.only p h));
      }
    where
      new : (p : ℕ) → Span m.from m.count p → Locked (act s i m).locks p
      new p k = fill_in s.locks m.from m.count p m.value false (r.there p k) k ∙ e

      on : (p : ℕ) → Locked s.locks p → Locked (act s i m).locks p
      on p h = rw e (locked_on s.locks m.from m.count p h)

  freed : m.value ≡ false → Frees m.from m.count (stage_of s i) m.stage → Locks (act s i m)
  freed e r =
      record {
        holder = λ p h.
            ⊎_elim (λ w. absurd (true≢false (sym w.1 ∙ e))) (λ w. still_held p (λ k. r.keeps p k w.0) w.1)
            (locked_was s.locks m.from m.count p m.value h);
        locked = λ j p h.
            ⊎_elim (λ w. off p (r.gone p w.1) (o.locked i p (r.only p w.1)))
            (λ w. off p (λ k. w.0 (o.apart j i p w.1 (r.own p k))) (o.locked j p w.1))
            (after j p h);
        apart = still_apart (λ j p n h k. n (o.apart j i p k (r.only p h)));
      }
    where
      off : (p : ℕ) → (Span m.from m.count p → ⊥) → Locked s.locks p → Locked (act s i m).locks p
      off p n h = fill_out s.locks m.from m.count p m.value false n ∙ h

  pub act-locks : (v : Bool) → m.value ≡ v → Rule v s.locks m.from m.count (stage_of s i) m.stage → Locks (act s i m)
  act-locks true e r = granted e r
  act-locks false e r = freed e r
