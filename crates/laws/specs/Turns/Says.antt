-- What an answer, code and charge, says of an operation's call: what was held of it before the answer's moment, a, and after it, b.
use Rattle.std.specs.Prelude.{ℕ, ◌<◌, ◌≡◌, refl, ◌⊎◌, true, false, Option, None, Some}
use Rattle.std.proofs.Common.{inl, inr, ⊎_elim, arith}
use Rattle.spec.specs.declared.Rec.{Rec}
use Rattle.spec.specs.declared.Op.{Op}
use Rattle.spec.specs.declared.Kind.TheVariants.{Search, Insert, Delete}
use Rattle.spec.specs.Code.{not_yet, found, not_found, stored, already_there, deleted, absent, no_depth, no_page, differs}
use Rattle.spec.specs.Job.{strikes}
use Rattle.spec.specs.Turn.{rec_of}

pub data Says (op : Op) (a b : Option Rec) : ℕ → ℕ → Type 0 where
  is_found : (r : Rec) → op.kind ≡ Search → a ≡ Some r → b ≡ a → Says op a b found r.charge
  is_none : op.kind ≡ Search → a ≡ None → b ≡ a → Says op a b not_found 0
  is_stored : op.kind ≡ Insert → a ≡ None → b ≡ Some (rec_of op) → Says op a b stored op.charge
  is_there : (r : Rec) → op.kind ≡ Insert → a ≡ Some r → b ≡ a → Says op a b already_there r.charge
  is_deleted : (r : Rec) → op.kind ≡ Delete → a ≡ Some r → strikes op.charge r.charge ≡ true → b ≡ None → Says op a b deleted r.charge
  is_absent : op.kind ≡ Delete → a ≡ None → b ≡ a → Says op a b absent 0
  is_no_depth : op.kind ≡ Insert → a ≡ None → b ≡ a → Says op a b no_depth 0
  is_no_page : op.kind ≡ Insert → a ≡ None → b ≡ a → Says op a b no_page 0
  is_differing : (r : Rec) → op.kind ≡ Delete → a ≡ Some r → strikes op.charge r.charge ≡ false → b ≡ a → Says op a b differs r.charge

-- a code is one of nine
pub says-code : {op : Op} {a b : Option Rec} {k c : ℕ} → Says op a b k c → k < 256
says-code (is_found r i j e) = omega arith
says-code (is_none i j e) = omega arith
says-code (is_stored i j e) = omega arith
says-code (is_there r i j e) = omega arith
says-code (is_deleted r i j t e) = omega arith
says-code (is_absent i j e) = omega arith
says-code (is_no_depth i j e) = omega arith
says-code (is_no_page i j e) = omega arith
says-code (is_differing r i j t e) = omega arith

-- the two codes that change what is held
abbrev pub Changes : ℕ → Type 0
Changes k = (k ≡ stored) ⊎ (k ≡ deleted)

pub changes-code : (k : ℕ) → Changes k → k ≡ not_yet → ⊥
changes-code k c z = ⊎_elim (λ w. omega arith) (λ w. omega arith) c

-- an answer of another code leaves what is held, and so does a search
pub says_change : {op : Op} {a b : Option Rec} {k c : ℕ} → Says op a b k c → (b ≡ a) ⊎ (Changes k × (op.kind ≡ Search → ⊥))
says_change (is_found r i j e) = inl e
says_change (is_none i j e) = inl e
says_change (is_stored i j e) = inr (inl refl, λ z. let w : ◌≡◌ {A = ℕ} 0 1 = cc in omega arith)
says_change (is_there r i j e) = inl e
says_change (is_deleted r i j t e) = inr (inr refl, λ z. let w : ◌≡◌ {A = ℕ} 0 1 = cc in omega arith)
says_change (is_absent i j e) = inl e
says_change (is_no_depth i j e) = inl e
says_change (is_no_page i j e) = inl e
says_change (is_differing r i j t e) = inl e

-- "stored" says that the call came to be held
pub says-stored : {op : Op} {a b : Option Rec} {k c : ℕ} → Says op a b k c → k ≡ stored → (op.kind ≡ Search → ⊥) × (b ≡ Some (rec_of op))
says-stored (is_stored i j e) z = (λ w. let n : ◌≡◌ {A = ℕ} 0 1 = cc in omega arith, e)
says-stored (is_found r i j e) z = absurd (omega arith)
says-stored (is_none i j e) z = absurd (omega arith)
says-stored (is_there r i j e) z = absurd (omega arith)
says-stored (is_deleted r i j t e) z = absurd (omega arith)
says-stored (is_absent i j e) z = absurd (omega arith)
says-stored (is_no_depth i j e) z = absurd (omega arith)
says-stored (is_no_page i j e) z = absurd (omega arith)
says-stored (is_differing r i j t e) z = absurd (omega arith)
