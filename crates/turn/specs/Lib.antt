pub mod Rows
pub mod Steps
pub mod Safe
pub mod Idle
