-- Demand 3: every turn list of a job whose file is proper is explained by its log. The theorem is in Turns/Theorem; what it leaves to the bytes, in ReadBack.
-- what is known of keys, records and pages, and of a split
pub mod Prefix
pub mod Records
pub mod CallsRise
pub mod Shared
pub mod Owners
pub mod Grow
pub mod Count
pub mod Pages
-- moves, rows and locks; what an answer says, and what turn (d) comes to; numbers in range, and progress
pub mod Ranges
pub mod Rows
pub mod Locks
pub mod Plans
pub mod Good
pub mod Says
pub mod Decision
pub mod Legal
pub mod Progress
-- what each turn does to the file and to what it holds
pub mod Work
pub mod Lookup
pub mod SplitPlan
pub mod Does
pub mod PageTurns
pub mod SplitTurns
pub mod Coherent
-- answers are given once
pub mod Codes
-- which page every entry names
pub mod Owned
pub mod OwnedTurns
pub mod Settled
-- the history of a run: every answer is right at its moment
pub mod Reads
pub mod History
pub mod Account
pub mod States
pub mod Whole
-- the log and the plain list
pub mod Contents
pub mod Log
pub mod Replay
pub mod Answers
pub mod Theorem
-- the result's file is proper again; sizes; a page in use stays in use; an example
pub mod Again
pub mod Narrow
pub mod Sizes
pub mod InUse
pub mod Sample
-- for the code: a split is each time the one decided; entries and depths only rise; look-ups in place of walks; numbers that fit
pub mod Frozen
pub mod Depths
pub mod Writes
pub mod Rising
pub mod Followed
pub mod Slots
pub mod Interval
pub mod GoesBy
pub mod Fields
pub mod Full
-- the page that is told with an answer
pub mod PageTold
-- how many turns an operation has used, by its stage; how many it uses at most
pub mod Spent
pub mod SpentTurns
-- rounds: how many finish every operation
pub mod Rounds
-- turns dealt: what is left to use, and that it runs out
pub mod Sums
pub mod Remaining
pub mod Dealing
