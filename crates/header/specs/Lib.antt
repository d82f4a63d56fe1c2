-- what the contracts cite
pub mod Counts
pub mod File
-- laws for callers' proofs
pub mod Sections
pub mod Accepted
pub mod FileLaws
