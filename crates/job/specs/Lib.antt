-- what the contracts cite
pub mod Owner
pub mod Records
