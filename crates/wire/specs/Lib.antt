-- what the contracts cite
pub mod Over
pub mod Low
pub mod Wrote
pub mod Comes
-- laws for callers' proofs
pub mod OverLaws
pub mod Joined
pub mod Reads
pub mod Parts
pub mod WroteLaws
