-- What is at most so large within the limits.
use Prim.Native.Nat.{ℕ, ◌*◌, ◌≤◌}
use native.Mathlib.Nat.{mul-le-mul}

-- a page is at most 68 bytes, and there are at most 256
pub table-most : (size n : ℕ) → size ≤ 68 → n ≤ 256 → size * n ≤ 17408
table-most size n s m = mul-le-mul s m
