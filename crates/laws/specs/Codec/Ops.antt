-- Rows 9 and 10, said of the bytes of each operation and each turn.
use Rattle.std.proofs.Math.Logic.Iff
use Rattle.std.specs.Prelude.{ℕ, ◌<◌, ◌≤◌, ◌≡◌, ◌↔◌, List, None}
use Rattle.spec.specs.Basics.{first_of, Each}
use Rattle.spec.specs.Bytes.{byte, long}
use Rattle.spec.specs.Job.{Header}
use Rattle.spec.specs.Decode.{number_of}
use Rattle.spec.specs.Check.{bad_op, op_fault, turn_fault}
use Rattle.laws.specs.Codec.Tools.{failed}
use Rattle.laws.specs.Codec.Walk.{first_each}

-- the bytes o of an operation pass
pub record OpFine (o : List ℕ) : Type 0 where
  pub kind : (1 ≤ byte o 0) × (byte o 0 ≤ 3)
  pub spare : byte o 1 ≡ 0
  pub charge : byte o 0 ≡ 1 → long o 6 ≡ 0

op-fine : (h : Header) (i : ℕ) (o : List ℕ) → op_fault h i o ≡ None ↔ OpFine o
unfolding op_fault bad_op
op-fine h i o = simp failed (λ e. search, λ r. search)

-- row 9
pub ops_said : (h : Header) (os : List (List ℕ)) → first_of (op_fault h) 0 os ≡ None ↔ Each OpFine os
ops_said h os = first_each (op_fault h) OpFine (op-fine h) os

-- row 10
pub turns_said : (h : Header) (us : List (List ℕ)) → first_of (turn_fault h) 0 us ≡ None ↔ Each (λ u. number_of u < h.ops) us
unfolding turn_fault
turns_said h us = first_each (turn_fault h) (λ u. number_of u < h.ops) (λ k u. simp failed Iff.rfl) us
