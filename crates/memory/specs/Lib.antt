pub mod Memory
pub mod Load
-- what the contracts ask
pub mod Within
-- laws
pub mod Places
pub mod Lent
pub mod Beside
pub mod Written
pub mod LoadLaws
