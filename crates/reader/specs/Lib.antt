-- what the contracts cite
pub mod Parts
-- laws for callers' proofs
pub mod PartLaws
