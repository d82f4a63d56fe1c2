-- The plan of a split that the depth allows: its pages are as they should be, they hold of their calls what the page held, the insert's
-- record is in its own; and the entry of a call goes where the call does.
use Rattle.std.specs.Prelude.{ℕ, suc, ◌+◌, ◌<◌, ◌≤◌, ◌≡◌, ◌∷◌}
use Rattle.std.proofs.Common.{inr, arith}
use Rattle.std.proofs.Math.Logic.{by_cases}
use Rattle.std.proofs.Math.Decide.{ℕ_discrete}
use Rattle.std.proofs.Math.ListN.{get_or}
use Rattle.spec.specs.declared.Op.{Op}
use Rattle.spec.specs.Basics.{Each}
use Rattle.spec.specs.Key.{index}
use Rattle.spec.specs.File.{File, zero_page, page_at}
use Rattle.spec.specs.Turn.{rec_of, plan_of, new_count, goes_to}
use Rattle.spec.specs.Proper.{In, Fit, PageOk}
use Rattle.laws.specs.Tools.{rest, each_imp, each_at}
use Rattle.laws.specs.Turns.Prefix.{fit_32, begins_in}
use Rattle.laws.specs.Turns.Owners.{new_owner_at, new_owner-none, new_owner_is}
use Rattle.laws.specs.Turns.Grow.{Serves, grow_serves, grow_covers, grow-apart, grow_lone}
use Rattle.laws.specs.Turns.Pages.{Made, grow_made}
use Rattle.laws.specs.Turns.Work.{Plan}

module _ (f : File) (op : Op) (x : ℕ) (fit : Fit f) (ok : PageOk f.g f.c (page_at f x)) (pl : Plan f op x) where
  g32 : f.g ≤ 32
  g32 = fit_32 f fit

  deep : (page_at f x).depth + suc f.g ≤ 32
  deep = omega (arith, fit.depth, ok.deep)

  pub made : Each (Made f.g f.c (rec_of op)) ((plan_of f op x).old ∷ (plan_of f op x).news)
  unfolding plan_of
  made = grow_made f.g f.c (suc f.g) (page_at f x) (rec_of op) g32 ok pl.here pl.absent (inr (omega (arith, pl.depth)))

  pub serves : Each (Serves (page_at f x) (rec_of op)) ((plan_of f op x).old ∷ (plan_of f op x).news)
  unfolding plan_of
  serves = grow_serves f.c (suc f.g) (page_at f x) (rec_of op) deep

  depths : Each (λ q. q.depth ≤ f.g) (plan_of f op x).news
  depths = each_imp (λ q m. m.ok.deep) (rest made)

  -- a call of the page whose entry stays is of the old page, as it will be, and the other way round
  pub stays_old : (k : ℕ) → In (page_at f x) k → goes_to f op x 0 (index f.g k) ≡ 0 → In (plan_of f op x).old k
  unfolding plan_of goes_to
  stays_old k i z = grow_covers f.c (suc f.g) (page_at f x) (rec_of op) k deep i (new_owner-none f.g _ 0 k g32 depths z)

  pub old_stays : (k : ℕ) → In (plan_of f op x).old k → goes_to f op x 0 (index f.g k) ≡ 0
  unfolding plan_of goes_to
  old_stays k i =
      by_cases (ℕ_discrete (goes_to f op x 0 (index f.g k)) 0) (λ z. z)
      (λ z.
      let o = new_owner_at f.g (plan_of f op x).news 1 (index f.g k) zero_page z in
      absurd
      (each_at (plan_of f op x).news o.0 zero_page o.1 (grow-apart f.c (suc f.g) (page_at f x) (rec_of op) k deep)
      (begins_in f.g (get_or (plan_of f op x).news o.0 zero_page) k (each_at _ o.0 zero_page o.1 depths) g32 o.3)
      i))

  -- an entry that goes to a new page goes to one of those planned, and its calls are of it
  pub goes_new
      : (b n j : ℕ)
      → n ≡ new_count f op x
      → (goes_to f op x b j ≡ 0 → ⊥)
      → (m : ℕ) × (m < n) × (goes_to f op x b j ≡ suc b + m) × ((k : ℕ) → index f.g k ≡ j → In (get_or (plan_of f op x).news m zero_page) k)
  unfolding goes_to new_count
  goes_new b n j e g =
      let o = new_owner_at f.g (plan_of f op x).news (suc b) j zero_page g in
      let q = get_or (plan_of f op x).news o.0 zero_page in
      (o.0, omega (arith, o.1), o.2, λ k z. begins_in f.g q k (each_at _ o.0 zero_page o.1 depths) g32 (rw z o.3))

  -- the entry of a call of new page m goes to it, and the call is of the page that is split
  pub new_goes
      : (b n k m : ℕ)
      → n ≡ new_count f op x
      → m < n
      → In (get_or (plan_of f op x).news m zero_page) k
      → (goes_to f op x b (index f.g k) ≡ suc b + m) × In (page_at f x) k
  unfolding plan_of goes_to new_count
  new_goes b n k m e l i = (
    new_owner_is f.g _ (suc b) k m zero_page g32 depths (grow_lone f.c (suc f.g) (page_at f x) (rec_of op) k deep) (omega arith) i,
    (each_at (plan_of f op x).news m zero_page (omega arith) (rest serves)).inside k i,
  )
