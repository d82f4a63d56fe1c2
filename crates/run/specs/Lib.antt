pub mod Table
pub mod Call
