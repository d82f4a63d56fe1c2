-- what the contracts cite
pub mod Added
-- laws for callers' proofs
pub mod AddedLaws
pub mod Chain
pub mod Sections
