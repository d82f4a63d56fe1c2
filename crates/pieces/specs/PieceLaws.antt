-- The pieces, bit by bit, as the code looks for them: `end` is the depth that the last split makes.
use Rattle.std.specs.Prelude.{◌≡◌, true, false, ℕ, suc, ◌+◌, ◌-◌, ◌*◌, ◌<◌}
use Rattle.std.proofs.Common.{add-one, arith}
use Rattle.spec.specs.Key.{index, bit}
use Rattle.spec.specs.Split.{digit}
use Rattle.laws.specs.Tools.{if-true, if-false}
use Rattle.pieces.specs.Piece.{side_piece, own_piece, kept_piece, new_piece}

pub kept_one : (end d call : ℕ) → d < end → bit d call ≡ true → kept_piece (end - d) d call ≡ side_piece false d call
unfolding kept_piece
kept_one end d call h e = let z : end - d ≡ suc (end - (d + 1)) = omega arith in rw z (if-true _ _ e)

pub kept-zero : (end d call : ℕ) → d < end → bit d call ≡ false → kept_piece (end - d) d call ≡ kept_piece (end - (d + 1)) (d + 1) call
unfolding kept_piece
kept-zero end d call h e = let z : end - d ≡ suc (end - (d + 1)) = omega arith in rw (z, add-one) (if-false _ _ e)

pub kept_own : (end d call : ℕ) → d ≡ end → kept_piece (end - d) d call ≡ own_piece end call
unfolding kept_piece
kept_own end d call e = let z : end - end ≡ 0 = omega arith in rw (e, z)

pub new_one : (n d call : ℕ) → bit d call ≡ true → new_piece n d call ≡ kept_piece n (d + 1) call
unfolding new_piece
new_one n d call e = rw add-one (if-true _ _ e)

pub new_zero : (n d call : ℕ) → bit d call ≡ false → new_piece n d call ≡ side_piece true d call
unfolding new_piece
new_zero n d call e = if-false _ _ e

-- a half as the code makes it
pub side_zero : (d call i : ℕ) → i ≡ index d call → side_piece false d call ≡ record { depth = d + 1; pattern = 2 * i; own = false }
unfolding side_piece digit
side_zero d call i e = let z : 2 * i + 0 ≡ 2 * i = omega arith in rw (add-one, ← e, z)

pub side_one : (d call i : ℕ) → i ≡ index d call → side_piece true d call ≡ record { depth = d + 1; pattern = 2 * i + 1; own = false }
unfolding side_piece digit
side_one d call i e = rw (add-one d, ← e)
