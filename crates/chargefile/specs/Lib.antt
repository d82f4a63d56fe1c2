pub mod Handed
pub mod Called
