-- what the contracts cite
pub mod Given
pub mod Charge
pub mod Call
