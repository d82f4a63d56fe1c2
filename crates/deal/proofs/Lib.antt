pub mod Fields
pub mod Accepting
pub mod Ends
