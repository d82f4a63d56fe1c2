-- what the contracts cite
pub mod Read
pub mod Sound
-- laws for callers' proofs: what the report of an accepted job's result is
pub mod Right
pub mod Printed
