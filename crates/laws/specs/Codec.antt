-- The laws of the bytes: a file for each theme, those that others rest on first.
-- tools: tests that do not hold, walks over a list and loops that stop at the first fault, what an answer says, bytes that are zero, parts of a byte string and their places, bytes that are parts from beginning to end, numbers in bytes
pub mod Tools
pub mod Walk
pub mod Passed
pub mod Answer
pub mod Zeros
pub mod Parts
pub mod Whole
pub mod Numbers
pub mod Pieces
pub mod Places
-- what each row of the refusal table says where it does not hold; and that no row has the number 0
pub mod Rows
pub mod Told
pub mod Numbered
pub mod Longest
pub mod InUse
pub mod Owner
pub mod Records
pub mod Repeats
pub mod Pages
pub mod Undivided
pub mod Ops
-- an accepted job
pub mod Accepted
-- written and read, read and written
pub mod Sections
pub mod Back
pub mod Forth
-- proper jobs are accepted, and accepted jobs are proper
pub mod Proper
pub mod Sizes
pub mod Written
pub mod AsBytes
pub mod Exact
-- a result, written and read
pub mod ResultBack
-- a job with no turns
pub mod Quiet
