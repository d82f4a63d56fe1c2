-- The dealt list: each of its turns is used, there are no more of them than a bound, and in the end all operations have finished.
use Prim.Native.Nat.{ℕ, zero, suc, ◌+◌, ◌-◌, ◌*◌, ◌^◌, ◌<◌, ◌≤◌}
use Rattle.std.specs.Prelude.{◌≡◌, true, false, get_or, take}
use Rattle.std.proofs.Math.Path.{refl, sym, ap}
use Rattle.std.proofs.Common.{◌∙◌, true≢false, mul-le-mul_right, pow_mono}
use Rattle.std.proofs.Math.Logic.{by_cases}
use mathlib.Core.List.{List, [], ◌∷◌, ◌++◌, append_assoc, append-nil}
use Rattle.std.proofs.lemmas.Bool.{false≢true}
use native.Mathlib.Omega.{arith}
use Rattle.std.proofs.Math.Decide.{ℕ_discrete, dec_lt}
use Rattle.std.proofs.Math.ListN.{length}
use Rattle.spec.specs.declared.Op.{Op}
use Rattle.spec.specs.declared.Stage.{Stage}
use Rattle.spec.specs.declared.Stage.TheVariants.{NotBegun, ReadPage, Reread, Lock, Held, Split, Done}
use Rattle.spec.specs.Basics.{if, all_of, Each, end, next}
use Rattle.spec.specs.Job.{Job, max_depth, max_ops}
use Rattle.spec.specs.State.{Row, State, gone}
use Rattle.spec.specs.Run.{row_of, stage_of, idle, step, start, steps, run}
use Rattle.spec.specs.Deal.{max_dealt, is_done, all_done, round_from, round, rounds, dealt_by, dealt, dealt_job}
use Rattle.spec.specs.Proper.{FileOk}
use Rattle.spec.specs.Claims.{state_at}
use Rattle.spec.specs.Dealt.{DealtWell}
use Rattle.laws.specs.Tools.{if_case, if-true, if_both, each_or, all_of_true, all_of_false}
use Rattle.laws.specs.Turns.Rows.{moves_row, steps_keep}
use Rattle.laws.specs.Turns.Good.{Good}
use Rattle.laws.specs.Turns.Legal.{step_good}
use Rattle.laws.specs.Turns.Progress.{progress}
use Rattle.laws.specs.Turns.Does.{Coherent}
use Rattle.laws.specs.Turns.Coherent.{step_coherent}
use Rattle.laws.specs.Turns.Settled.{Settled, step_settled}
use Rattle.laws.specs.Turns.States.{steps-append, step-rows}
use Rattle.laws.specs.Turns.Whole.{start-whole}
use Rattle.laws.specs.Turns.Theorem.{moves_unfinished}
use Rattle.laws.specs.Turns.Rounds.{done-or}
use Rattle.laws.specs.Turns.Remaining.{remaining, step_remaining, start_remaining}

-- what is needed of a state, whatever list it comes from
pub record Sound (ops : List Op) (s : State) : Type 0 where
  pub good : Good ops s
  pub coherent : Coherent ops s
  pub settled : Settled ops s
  pub rows : length s.rows ≡ length ops

step_sound : (ops : List Op) (s : State) (i : ℕ) → Sound ops s → Sound ops (step ops s i)
step_sound ops s i h =
    record {
      good = step_good ops s i h.good;
      coherent = step_coherent ops s i h.good h.coherent;
      settled = step_settled ops s i h.good h.coherent h.settled;
      rows = step-rows ops s i ∙ h.rows;
    }

steps_sound : (ops : List Op) (s : State) (ts : List ℕ) → Sound ops s → Sound ops (steps ops s ts)
steps_sound ops = steps_keep (Sound ops) ops (step_sound ops)

pub start_sound : (j : Job) → FileOk j.file → Sound j.ops (start j.file (length j.ops))
start_sound j ok =
    let w = start-whole j ok in
    record { good = w.good; coherent = w.coherent; settled = w.settled; rows = w.rows }

-- each turn of a list is used: the operation that it names is unfinished and does not wait
pub data Uses (ops : List Op) : State → List ℕ → Type 0 where
  stop : {s : State} → Uses ops s []
  used : {s : State} {i : ℕ} {ts : List ℕ} → idle s.locks (stage_of s i) ≡ false → Uses ops (step ops s i) ts → Uses ops s (i ∷ ts)

module _ (ops : List Op) where
  pub uses_append : (s : State) (ts us : List ℕ) → Uses ops s ts → Uses ops (steps ops s ts) us → Uses ops s (ts ++ us)
  unfolding steps
  uses_append s [] us h k = k
  uses_append s (t ∷ ts) us (used e h) k = used e (uses_append (step ops s t) ts us h k)

  -- so are the turns of a round, and of as many of its operations as have been asked; and those of rounds
  round_uses : (n i : ℕ) (s : State) → Uses ops s (round_from ops n i s)
  unfolding round_from
  round_uses zero i s = stop
  round_uses (suc n) i s =
      if_case (Uses ops s) (λ e. round_uses n (suc i) s) (λ e. used e (round_uses n (suc i) (step ops s i)))

  rounds_uses : (n : ℕ) (s : State) → Uses ops s (rounds n ops s)
  unfolding rounds round
  rounds_uses zero s = stop
  rounds_uses (suc n) s =
      if_case (Uses ops s) (λ e. stop) (λ e. uses_append s _ _ (round_uses (length ops) 0 s) (rounds_uses n (steps ops s (round ops s))))

  -- turn t, in the state before it
  uses_at
      : (s : State) (ts : List ℕ) (t : ℕ)
      → Uses ops s ts
      → t < length ts
      → idle (steps ops s (take t ts)).locks (stage_of (steps ops s (take t ts)) (get_or ts t 0)) ≡ false
  unfolding steps
  uses_at s [] t h l = absurd (omega arith)
  uses_at s (a ∷ ts) zero (used e h) l = e
  uses_at s (a ∷ ts) (suc t) (used e h) l = uses_at (step ops s a) ts t h (omega arith)

  -- it names an operation of the job
  pub uses_named : (s : State) (ts : List ℕ) → Sound ops s → Uses ops s ts → Each (λ t. t < length ops) ts
  uses_named s [] h u = end
  uses_named s (t ∷ ts) h (used e u) =
      next {x = t} (omega (arith, moves_row s t e, h.rows)) (uses_named (step ops s t) ts (step_sound ops s t h) u)

  -- there are no more such turns than what remains has fallen by
  uses_remaining : (s : State) (ts : List ℕ) → Sound ops s → Uses ops s ts → length ts + remaining ops (steps ops s ts) ≤ remaining ops s
  unfolding steps
  uses_remaining s [] h u = omega arith
  uses_remaining s (t ∷ ts) h (used e u) =
      let more = uses_remaining (step ops s t) ts (step_sound ops s t h) u in
      let one = step_remaining ops s t h.good h.coherent h.settled h.rows e in
      omega arith

-- what the tests say: an operation has finished, or it has not; all have
done-true : (st : Stage) → is_done st ≡ true → st ≡ Done
unfolding is_done
done-true NotBegun e = absurd (false≢true e)
done-true (ReadPage x) e = absurd (false≢true e)
done-true (Reread x t) e = absurd (false≢true e)
done-true (Lock x) e = absurd (false≢true e)
done-true (Held x t) e = absurd (false≢true e)
done-true (Split x b n q) e = absurd (false≢true e)
done-true Done e = refl

not_done : (st : Stage) → is_done st ≡ false → st ≡ Done → ⊥
unfolding is_done
not_done st e d = true≢false (sym (ap is_done d) ∙ e)

all_done_lem : (s : State) → all_done s ≡ true → (i : ℕ) → stage_of s i ≡ Done
unfolding all_done stage_of row_of is_done
all_done_lem s e i = done-true _ (each_or {P = λ (r : Row). is_done r.stage ≡ true} s.rows i gone refl (all_of_true _ s.rows e))

-- the turn that operation k gets in the state s, if any
abbrev pub turn_for : ℕ → State → List ℕ
turn_for k s = if (idle s.locks (stage_of s k)) [] (k ∷ [])

module _ (ops : List Op) where
  -- in a round that deals nothing every operation asked is finished or waits
  round-none : (n i : ℕ) (s : State) → length (round_from ops n i s) ≡ 0 → (k : ℕ) → i ≤ k → k < i + n → idle s.locks (stage_of s k) ≡ true
  unfolding round_from
  round-none zero i s e k l u = absurd (omega arith)
  round-none (suc n) i s e k l u =
      if_case (λ (ts : List ℕ). length ts ≡ 0 → idle s.locks (stage_of s k) ≡ true)
      (λ w z.
      by_cases (ℕ_discrete k i) (λ (q : k ≡ i). rw q w) (λ q. round-none n (suc i) s z k (omega arith) (omega arith)))
      (λ w z. absurd (omega arith))
      e

  -- so where one is unfinished a round deals a turn: somebody can use one
  round-some : (s : State) → Sound ops s → all_done s ≡ false → 0 < length (round ops s)
  unfolding all_done round stage_of row_of
  round-some s h e =
      let u = all_of_false _ s.rows gone e in
      let p = progress s h.good.locks u.0 (not_done _ u.1) in
      by_cases (dec_lt 0 (length (round ops s))) (λ l. l)
      (λ l.
      absurd
      (true≢false
      (sym (round-none (length ops) 0 s (omega arith) p.0 (omega arith) (omega (arith, moves_row s p.0 p.1, h.rows)))
      ∙ p.1)))

  -- and where all have finished it deals none
  round_over : (n i : ℕ) (s : State) → ((k : ℕ) → stage_of s k ≡ Done) → round_from ops n i s ≡ []
  unfolding round_from idle
  round_over zero i s h = refl
  round_over (suc n) i s h = if-true _ _ (ap (idle s.locks) (h i)) ∙ round_over n (suc i) s h

  no_round_lem : (s : State) → all_done s ≡ true → round ops s ≡ []
  unfolding round
  no_round_lem s e = round_over (length ops) 0 s (all_done_lem s e)

  -- For a loop: a round of one operation more, and one round more, stand behind what was dealt before.
  round_last : (n i k : ℕ) (s : State) → k ≡ i + n → round_from ops (suc n) i s ≡ round_from ops n i s ++ turn_for k (steps ops s (round_from ops n i s))
  unfolding round_from steps
  round_last zero i k s e = let z : k ≡ i = omega arith in rw z
  round_last (suc n) i k s e =
      if_both (λ (us ts : List ℕ). us ≡ ts ++ turn_for k (steps ops s ts)) (λ w. round_last n (suc i) k s (omega arith))
      (λ w. ap (λ (ts : List ℕ). i ∷ ts) (round_last n (suc i) k (step ops s i) (omega arith)))

  pub round-next : (k : ℕ) (s : State) → round_from ops (suc k) 0 s ≡ round_from ops k 0 s ++ turn_for k (steps ops s (round_from ops k 0 s))
  round-next k s = round_last k 0 k s (omega arith)

  pub rounds-next : (n : ℕ) (s : State) → rounds (suc n) ops s ≡ rounds n ops s ++ round ops (steps ops s (rounds n ops s))
  unfolding rounds steps
  rounds-next zero s = if_case (λ (ts : List ℕ). ts ≡ round ops s) (λ e. sym (no_round_lem s e)) (λ e. append-nil (round ops s))
  rounds-next (suc n) s =
      if_both (λ (us ts : List ℕ). us ≡ ts ++ round ops (steps ops s ts)) (λ e. sym (no_round_lem s e))
      (λ e.
      let r = round ops s in
      let t = steps ops s r in
      rw (steps-append ops s r (rounds n ops t), append_assoc r (rounds n ops t) (round ops (steps ops t (rounds n ops t))))
      (ap (λ (ts : List ℕ). r ++ ts) (rounds-next n t)))

  -- a round that deals nothing is the end: more rounds change nothing
  rounds_for : (n d : ℕ) (s : State) → round ops (steps ops s (rounds n ops s)) ≡ [] → rounds (n + d) ops s ≡ rounds n ops s
  rounds_for n zero s e = let z : n + zero ≡ n = omega arith in rw z
  rounds_for n (suc d) s e =
      let z : n + suc d ≡ suc (n + d) = omega arith in
      rw (z, rounds-next (n + d) s, rounds_for n d s e, e) (append-nil (rounds n ops s))

  rounds-more
      : (n m : ℕ) (s : State)
      → n ≤ m
      → round ops (steps ops s (rounds n ops s)) ≡ []
      → rounds m ops s ≡ rounds n ops s
  rounds-more n m s l e = let z : n + (m - n) ≡ m = omega arith in rw z at (rounds_for n (m - n) s e)

  -- as many rounds as turns remain finish all
  rounds-done : (n : ℕ) (s : State) → Sound ops s → remaining ops s ≤ n → (i : ℕ) → stage_of (steps ops s (rounds n ops s)) i ≡ Done
  unfolding rounds round steps
  rounds-done zero s h l i =
      done-or _
      (λ u.
      let p = progress s h.good.locks i u in
      omega (arith, step_remaining ops s p.0 h.good h.coherent h.settled h.rows p.1))
  rounds-done (suc n) s h l i =
      if_case (λ (ts : List ℕ). stage_of (steps ops s ts) i ≡ Done) (λ e. all_done_lem s e i)
      (λ e.
      let r = round ops s in
      let fell = uses_remaining ops s r h (round_uses ops (length ops) 0 s) in
      let some = round-some s h e in
      rw (steps-append ops s r (rounds n ops (steps ops s r)))
      (rounds-done n (steps ops s r) (steps_sound ops s r h) (omega arith) i))

-- every turn of the dealt list is used
pub dealt_uses : (j : Job) → Uses j.ops (start j.file (length j.ops)) (dealt j)
unfolding dealt dealt_by
dealt_uses j = rounds_uses j.ops max_dealt _

-- a job whose file is proper, with no more operations than a job can have
module _ (j : Job) (ok : FileOk j.file) (few : length j.ops ≤ max_ops) where
  abbrev started : State
  started = start j.file (length j.ops)

  -- 256 operations with 6 + 3 * 8 turns each, 256 entries with 8, and 255 pages not in use with 2
  start-most : remaining j.ops started ≤ max_dealt
  start-most =
      let most = start_remaining j.ops j.file (length j.ops) in
      let a : length j.ops * (6 + 3 * j.file.g) ≤ max_ops * (6 + 3 * j.file.g) = mul-le-mul_right (6 + 3 * j.file.g) few in
      let b : 2 ^ j.file.g * j.file.g ≤ 2 ^ max_depth * j.file.g = mul-le-mul_right j.file.g (pow_mono {j = max_depth} ok.fit.depth) in
      omega (arith, ok.fit.depth, ok.fit.most, ok.fit.least)

  -- no list of turns that are all used is longer
  pub uses_fit : (ts : List ℕ) → Uses j.ops started ts → length ts ≤ max_dealt
  uses_fit ts u = omega (arith, uses_remaining j.ops started ts (start_sound j ok) u, start-most)

  pub dealt-fits : length (dealt j) ≤ max_dealt
  dealt-fits = uses_fit (dealt j) (dealt_uses j)

  -- all finish, so the bound of the rounds cuts nothing off
  pub dealt-done : (i : ℕ) → stage_of (run (dealt_job j)) i ≡ Done
  unfolding run dealt dealt_by
  dealt-done = rounds-done j.ops max_dealt started (start_sound j ok) start-most

  dealt-whole : (n : ℕ) → max_dealt ≤ n → dealt_by n j ≡ dealt j
  unfolding run dealt dealt_by round
  dealt-whole n l =
      rounds-more j.ops max_dealt n started l (round_over j.ops (length j.ops) 0 _ dealt-done)

  moves : (t : ℕ) → t < length (dealt j) → idle (state_at (dealt_job j) t).locks (stage_of (state_at (dealt_job j) t) (get_or (dealt j) t 0)) ≡ false
  unfolding state_at
  moves t l = uses_at j.ops started (dealt j) t (dealt_uses j) l

  -- no operation, no turn
  dealt-empty : j.ops ≡ [] → dealt j ≡ []
  unfolding dealt dealt_by rounds all_done all_of start
  dealt-empty e = if-true _ _ (ap (λ (ops : List Op). all_done (start j.file (length ops))) e)

  pub dealt_well : DealtWell j
  dealt_well =
      record {
        no_wait = λ t l v. true≢false (sym v.idles ∙ moves t l);
        unfinished = λ t l. moves_unfinished _ _ (moves t l);
        fits = dealt-fits;
        done = λ i l. dealt-done i;
        whole = dealt-whole;
        empty = dealt-empty;
      }
