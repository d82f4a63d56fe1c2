pub mod Input
pub mod Failure
