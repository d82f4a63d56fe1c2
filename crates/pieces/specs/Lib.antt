-- what the contracts cite
pub mod Piece
pub mod Splits
-- laws for the proofs, here and in other crates
pub mod Least
pub mod PieceLaws
pub mod Parts
