-- what the contracts cite
pub mod Read
-- laws for callers' proofs
pub mod Parts
