-- What is at most so large within the limits.
use Prim.Native.Nat.{ℕ, ◌*◌, ◌%◌, ◌^◌, ◌≤◌}
use mathlib.Core.Path.{◌≡◌}
use native.Mathlib.Omega.{arith}
use lib.Pow.{pow_mono}

-- 1 shifted by a depth
pub shifted : (d : ℕ) → d ≤ 8 → 1 * 2 ^ d % 2 ^ 64 ≡ 2 ^ d
shifted d l = let m : 2 ^ d ≤ 2 ^ 8 = pow_mono l in omega arith
