-- what the contracts cite
pub mod Read
-- the largest charge there is
pub mod Largest
-- the hour table is the definition's class
pub mod Hours
