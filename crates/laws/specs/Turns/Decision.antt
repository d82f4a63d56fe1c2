-- What turn (d) of an operation that holds page x comes to, by what it finds of its call there. A proof about all turns goes through these cases,
-- and not through the text of `decided`; one that asks nothing of the answer, through the three of `decided_case`.
use Rattle.std.specs.Prelude.{ℕ, suc, ◌+◌, ◌<◌, ◌≤◌, ◌≡◌, true, false, length, Option, None, Some}
use Rattle.std.proofs.Math.Path.{refl}
use Rattle.std.proofs.Common.{arith, ltb-true, ltb-false}
use Rattle.spec.specs.declared.Rec.{Rec}
use Rattle.spec.specs.declared.Op.{Op}
use Rattle.spec.specs.declared.Kind.{Kind}
use Rattle.spec.specs.declared.Kind.TheVariants.{Search, Insert, Delete}
use Rattle.spec.specs.declared.Task.TheVariants.{WritePage, Unlock}
use Rattle.spec.specs.declared.Part.TheVariants.{WriteNew}
use Rattle.spec.specs.declared.Stage.TheVariants.{Held, Split}
use Rattle.spec.specs.Code.{stored, already_there, absent, differs}
use Rattle.spec.specs.File.{page_at, found_of}
use Rattle.spec.specs.Job.{strikes}
use Rattle.spec.specs.Split.{all_share}
use Rattle.spec.specs.State.{State, Answer, Move, same, go, go_lock}
use Rattle.spec.specs.Turn.{new_count, refused, placed, decided, decided_at}
use Rattle.laws.specs.Tools.{if_case}
use Rattle.laws.specs.Turns.Says.{Says, is_there, is_absent, is_no_depth, is_no_page, is_differing}

-- the pages of a split are taken and locked
abbrev pub taking : State → Op → ℕ → Move
taking s op x =
    let n : ℕ = new_count s.file op x in
    go_lock (Split x s.file.used n (WriteNew 1)) (suc s.file.used) n true n

pub data Decision (s : State) (op : Op) (x : ℕ) : Option Rec → Move → Type 0 where
  searching : {o : Option Rec} → op.kind ≡ Search → Decision s op x o (go (Held x Unlock) same)
  -- it is answered, and unlocks next: the call is missing, or is there
  refused_missing : {k : ℕ} → stored < k → Says op None None k 0 → Decision s op x None (refused x k 0 s.now)
  refused_there : {r : Rec} {k : ℕ} → stored < k → Says op (Some r) (Some r) k r.charge → Decision s op x (Some r) (refused x k r.charge s.now)
  -- the page is to be written: an insert has room in it; a delete strikes out its call
  to_store : op.kind ≡ Insert → length (page_at s.file x).records < s.file.c → Decision s op x None (go (Held x WritePage) same)
  to_strike : {r : Rec} → op.kind ≡ Delete → strikes op.charge r.charge ≡ true → Decision s op x (Some r) (go (Held x WritePage) same)
  -- the page is full, and is to be split
  to_split
      : op.kind ≡ Insert
      → s.file.c ≤ length (page_at s.file x).records
      → all_share s.file.g (page_at s.file x).records op.call ≡ false
      → s.file.used + new_count s.file op x ≤ s.file.limit
      → Decision s op x None (taking s op x)

module _ (s : State) (op : Op) (x : ℕ) where
  placed_decision : op.kind ≡ Insert → Decision s op x None (placed s op x (page_at s.file x))
  unfolding placed
  placed_decision i =
      if_case (Decision s op x None) (λ a. to_store i (ltb-true _ _ a))
      (λ a.
      if_case (Decision s op x None) (λ b. refused_missing (omega arith) (is_no_depth i refl refl))
      (λ b.
      if_case (Decision s op x None) (λ c. refused_missing (omega arith) (is_no_page i refl refl)) (λ c. to_split i (ltb-false _ _ a) b (ltb-false _ _ c))))

  decided_decision : (k : Kind) (o : Option Rec) → op.kind ≡ k → Decision s op x o (decided s op k (found_of x o))
  unfolding decided_at
  decided_decision Search o e = searching e
  decided_decision Insert None e = placed_decision e
  decided_decision Insert (Some r) e = refused_there {k = already_there} (omega arith) (is_there r e refl refl)
  decided_decision Delete None e = refused_missing {k = absent} (omega arith) (is_absent e refl refl)
  decided_decision Delete (Some r) e =
      if_case (Decision s op x (Some r)) (λ a. to_strike e a) (λ a. refused_there {k = differs} (omega arith) (is_differing r e refl a refl))

  pub decision : (o : Option Rec) → Decision s op x o (decided s op op.kind (found_of x o))
  decision o = decided_decision _ o refl

  -- it unlocks next, or writes the page next, or is to split a page that is full
  pub decided_case
      : (P : Move → Type 0)
      → ((a : Answer) → P (go (Held x Unlock) a))
      → P (go (Held x WritePage) same)
      → (s.file.c ≤ length (page_at s.file x).records → s.file.used + new_count s.file op x ≤ s.file.limit → P (taking s op x))
      → (o : Option Rec)
      → P (decided s op op.kind (found_of x o))
  decided_case P u w t o = by_case (decision o)
    where
      by_case : {o : Option Rec} {m : Move} → Decision s op x o m → P m
      by_case (searching e) = u _
      by_case (refused_missing l y) = u _
      by_case (refused_there l y) = u _
      by_case (to_store i l) = w
      by_case (to_strike e d) = w
      by_case (to_split i l d n) = t l n
