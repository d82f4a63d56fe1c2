-- what the contracts cite
pub mod Turns
pub mod Told
