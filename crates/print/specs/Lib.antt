-- what the contract cites
pub mod Printed
pub mod Table
-- laws
pub mod Enough
