-- Two pages of equal depth whose patterns differ only in the last bit, joined: the page is proper if there is room, and a call is found in it
-- as in the one of the two that it is of.
use Rattle.std.specs.Prelude.{ℕ, suc, ◌+◌, ◌-◌, ◌*◌, ◌/◌, ◌^◌, ◌<◌, ◌≤◌, ◌≡◌, refl, length, Option, None, Some}
use Rattle.std.proofs.Common.{inl, inr, arith, pow-suc}
use Rattle.std.proofs.Math.Logic.{by_cases}
use Rattle.std.proofs.Math.Decide.{ℕ_discrete}
use Rattle.spec.specs.declared.Rec.{Rec}
use Rattle.spec.specs.Basics.{Each}
use Rattle.spec.specs.Key.{index}
use Rattle.spec.specs.File.{Page, find_in}
use Rattle.spec.specs.Proper.{CallsRise, In, PageOk}
use Rattle.spec.specs.Tidy.{join_pages, Pair}
use Rattle.laws.specs.Tools.{each_imp}
use Rattle.laws.specs.Turns.Records.{found_in}
use Rattle.laws.specs.Turns.CallsRise.{rise-once}
use Rattle.laws.specs.Tidy.Merged.{Apart, merged-length, merged_each, merged_left, merged_right, merged-rise}
use Rattle.laws.specs.Tidy.Tiles.{low_half, high_half, a_half}

-- a page whose calls are its own holds no other
pub not-held : (q : Page) (k : ℕ) → Each (λ r. In q r.call) q.records → (In q k → ⊥) → find_in q.records k ≡ None
not-held q k h n = by (find_in q.records k) refl
  where
    by : (o : Option Rec) → find_in q.records k ≡ o → o ≡ None
    by None e = refl
    by (Some r) e = absurd (n (found_in q k r h e))

-- the two halves of pattern p of l bits
pub record Twins (l p : ℕ) (a b : Page) : Type 0 where
  pub low : l < 32
  pub depth-a : a.depth ≡ suc l
  pub depth-b : b.depth ≡ suc l
  pub pattern-a : a.pattern ≡ 2 * p
  pub pattern-b : b.pattern ≡ 2 * p + 1

module _ (l p : ℕ) (a b : Page) (t : Twins l p a b) where
  pub joined-depth : (join_pages a b).depth ≡ l
  unfolding join_pages
  joined-depth = omega (arith, t.depth-a)

  pub joined-pattern : (join_pages a b).pattern ≡ p
  unfolding join_pages
  joined-pattern = omega (arith, t.pattern-a)

  in-a : (k : ℕ) → In a k → index (suc l) k ≡ 2 * p
  in-a k i = rw (t.depth-a, t.pattern-a) at i

  in_b : (k : ℕ) → In b k → index (suc l) k ≡ 2 * p + 1
  in_b k i = rw (t.depth-b, t.pattern-b) at i

  joined_in : (k : ℕ) → index l k ≡ p → In (join_pages a b) k
  joined_in k i = rw (joined-depth, joined-pattern) i

  pub a-joined : (k : ℕ) → In a k → In (join_pages a b) k
  a-joined k i = joined_in k (low_half l k p t.low (in-a k i))

  pub b-joined : (k : ℕ) → In b k → In (join_pages a b) k
  b-joined k i = joined_in k (high_half l k p t.low (in_b k i))

  -- a call of the joined page is of one of the two
  pub either : (C : Type 0) (k : ℕ) → In (join_pages a b) k → (In a k → C) → (In b k → C) → C
  either C k i f g =
      a_half C l k p t.low (rw (joined-depth, joined-pattern) at i) (λ q. f (rw (t.depth-a, t.pattern-a) q))
      (λ q. g (rw (t.depth-b, t.pattern-b) q))

  pub not_both : (k : ℕ) → In a k → In b k → ⊥
  not_both k i j = let x = in-a k i in let y = in_b k j in omega arith

  module _ (homed-a : Each (λ r. In a r.call) a.records) (homed-b : Each (λ r. In b r.call) b.records) where
    pub joined_find
        : (P : Option Rec → Type 0) (k : ℕ)
        → CallsRise b.records
        → In (join_pages a b) k
        → (In a k → P (find_in a.records k))
        → (In b k → P (find_in b.records k))
        → P (find_in (join_pages a b).records k)
    unfolding join_pages
    joined_find P k up i f g =
        either _ k i (λ x. rw (merged_left a.records b.records k (not-held b k homed-b (not_both k x))) (f x))
        (λ x. rw (merged_right a.records b.records k (rise-once b.records up) (not-held a k homed-a (λ y. not_both k y x))) (g x))

    joined-homed : Each (λ r. In (join_pages a b) r.call) (join_pages a b).records
    unfolding join_pages
    joined-homed =
        merged_each a.records b.records (each_imp (λ r i. a-joined r.call i) homed-a) (each_imp (λ r i. b-joined r.call i) homed-b)

    pub apart : Apart a.records b.records
    apart k =
        by_cases (ℕ_discrete (index (suc l) k) (2 * p)) (λ e. inr (not-held b k homed-b (λ j. let y = in_b k j in omega arith)))
        (λ e. inl (not-held a k homed-a (λ j. e (in-a k j))))

    joined-rise : CallsRise a.records → CallsRise b.records → CallsRise (join_pages a b).records
    unfolding join_pages
    joined-rise x y = merged-rise a.records b.records x (rise-once b.records y) apart

  joined_small : (2 * p < 2 ^ suc l) → (join_pages a b).pattern < 2 ^ (join_pages a b).depth
  joined_small z = let w = pow-suc 2 l in rw (joined-depth, joined-pattern) (omega arith)

  pub joined_length : length (join_pages a b).records ≡ length a.records + length b.records
  unfolding join_pages
  joined_length = merged-length a.records b.records

  pub joined-index : (k : ℕ) → In (join_pages a b) k → index l k ≡ p
  joined-index k i = rw (joined-depth, joined-pattern) at i

  pub joined_ok : (g c : ℕ) → PageOk g c a → PageOk g c b → length a.records + length b.records ≤ c → PageOk g c (join_pages a b)
  joined_ok g c x y few =
      record {
        deep = rw joined-depth (omega (arith, x.deep, t.depth-a));
        small = joined_small (rw (t.depth-a, t.pattern-a) at x.small);
        room = rw joined_length few;
        homed = joined-homed x.homed y.homed;
        calls_rise = joined-rise x.homed y.homed x.calls_rise y.calls_rise;
      }

-- what holds of the records of both holds of the joined page's
pub joined_each : {P : Rec → Type 0} (a b : Page) → Each P a.records → Each P b.records → Each P (join_pages a b).records
unfolding join_pages
joined_each a b = merged_each a.records b.records

-- the two pages of a pair
pub pair_twins : (c : ℕ) (a b : Page) → a.depth ≤ 32 → Pair c a b → Twins (a.depth - 1) (a.pattern / 2) a b
pair_twins c a b h p =
    record {
      low = omega (arith, p.deep);
      depth-a = omega (arith, p.deep);
      depth-b = omega (arith, p.deep, p.level);
      pattern-a = p.bits.0;
      pattern-b = p.bits.1;
    }
