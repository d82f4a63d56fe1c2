-- The least number of leading bits that a call shares with some records, record by record. (That all of them share as many: laws' Turns/Shared.)
use Rattle.std.specs.Prelude.{◌≡◌, refl, List, [], ◌∷◌, ℕ, ◌≤◌, min}
use Rattle.std.proofs.Common.{arith}
use Rattle.spec.specs.declared.Rec.{Rec}
use Rattle.spec.specs.Key.{pseudo_key, shared}
use Rattle.spec.specs.Split.{least_shared}

least-nil : (k : ℕ) → least_shared [] k ≡ 32
unfolding least_shared
least-nil k = refl

least-cons : (r : Rec) (rs : List Rec) (k : ℕ) → least_shared (r ∷ rs) k ≡ min (shared 32 (pseudo_key r.call) (pseudo_key k)) (least_shared rs k)
unfolding least_shared
least-cons r rs k = refl

pub least-le : (rs : List Rec) (k : ℕ) → least_shared rs k ≤ 32
least-le [] k = rw (least-nil k) (omega arith)
least-le (r ∷ rs) k = rw (least-cons r rs k) (omega (arith, least-le rs k))

-- a loop over the records takes the least so far, from 32 on: before, at, and behind its turns
pub least_start : (rs : List Rec) (k : ℕ) → least_shared rs k ≡ min 32 (least_shared rs k)
least_start rs k = omega (arith, least-le rs k)

pub least-turn
    : (r : Rec) (rs : List Rec) (k least : ℕ)
    → min least (least_shared (r ∷ rs) k) ≡ min (min (shared 32 (pseudo_key r.call) (pseudo_key k)) least) (least_shared rs k)
least-turn r rs k least = rw (least-cons r rs k) (omega arith)

pub least_end : (k least : ℕ) → least ≤ 32 → min least (least_shared [] k) ≡ least
least_end k least h = rw (least-nil k) (omega arith)
