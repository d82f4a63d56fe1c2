-- No contract cites this file.
-- what the header and the proper file that are given tell
pub mod Known
-- the numbers of records before each entry
pub mod Counting
-- the refusals of an accepted file
pub mod Refused
-- records put among others
pub mod Gather
-- the directory and the page table, written front to back
pub mod Table
-- the parts of the tidied file together
pub mod Whole
-- what a call comes to
pub mod Outcomes
