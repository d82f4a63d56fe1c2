-- An operation's bytes, where they stand among the operations.
use Rattle.std.specs.Prelude.{ℕ, zero, suc, ◌+◌, ◌*◌, ◌<◌, ◌≡◌, List, [], get_or, take, drop}
use Rattle.std.proofs.Common.{◌∙◌, drop-drop, arith}
use Rattle.std.specs.Simd.{first_chunks}

pub chunk_at : (size n : ℕ) (b : List ℕ) (i : ℕ) → i < n → get_or (first_chunks size n b) i [] ≡ take size (drop (size * i) b)
chunk_at size zero b i l = absurd (omega (arith, l))
chunk_at size (suc n) b zero l = let z : size * 0 ≡ 0 = omega arith in rw z
chunk_at size (suc n) b (suc i) l =
    let z : size + size * i ≡ size * suc i = omega arith in
    chunk_at size n (drop size b) i (omega (arith, l)) ∙ rw (drop-drop (size * i) size b, z)
