-- what the walks of the rounds share
pub mod Giving
pub mod Passing
pub mod Rounding
-- rounds on the lent table are the machine's
pub mod Follows
