pub mod Known
pub mod Turned
pub mod Begins
pub mod Closing
pub mod Ends
pub mod Accepting
