-- No contract cites these files.
-- sizes within the limits, bytes that must be zero
pub mod Sizes
pub mod Zeros
-- a place found among numbers
pub mod Found
-- rows 7 and 8
pub mod Pages
pub mod Lowest
pub mod Begun
pub mod Foreign
-- row 9
pub mod Operation
-- the answer
pub mod Refused
