-- What a reader must believe: document 01's rules, as document 02 changes them; a file for each part, in document 01's order.
-- shared tools
pub mod Basics
-- "The file"
pub mod Key
pub mod File
-- "The job, byte by byte"
pub mod Bytes
pub mod Job
pub mod Encode
pub mod Decode
-- "Turns" (and the codes of "The result", which they set)
pub mod Split
pub mod Code
pub mod State
pub mod Turn
pub mod Run
-- "The result"
pub mod Result
-- "The plain list"
pub mod PlainList
-- "Refused jobs"
pub mod Check
pub mod Outcome
pub mod Cases
-- "Jobs worked through"
pub mod Report
-- "Tidying between runs"
pub mod Tidy
-- "Turns dealt for the site"
pub mod Deal
-- "The tariff"
pub mod SwitchLog
pub mod Tariff
-- what is claimed
pub mod Proper
pub mod Claims
pub mod MostTurns
pub mod Rounds
pub mod Dealt
pub mod Tidied
pub mod Months
pub mod Priced
-- by computation: the marked items, the refusal table, files tidied, turns dealt, calls priced
pub mod Opened
pub mod Worked
pub mod OneKey
pub mod Counted
pub mod Marked
pub mod Refusals
pub mod Tidying
pub mod Dealing
pub mod Pricing
