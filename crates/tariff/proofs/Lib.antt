-- No contract cites these files.
-- an index that is filled band by band
pub mod Filled
-- the refusals at a record
pub mod Refusals
-- the inserts, written one behind another
pub mod Bytes
-- what a call comes to
pub mod Outcomes
