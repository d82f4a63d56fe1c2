-- what the contracts cite
pub mod Index
pub mod Call
