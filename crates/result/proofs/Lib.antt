-- a line's way to its place
pub mod Moving
-- the log of the operations so far
pub mod Logging
