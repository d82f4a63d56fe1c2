-- Theorems about the definitions of `spec`. What is claimed is said there; here it is proved.
-- shared tools, and what is known of the pseudo key
pub mod Tools
pub mod Key
-- the turns: the invariants of a run, and demand 3 for a proper file
pub mod Turns
-- the bytes: accepted jobs are proper, and are read and written back exactly
pub mod Codec
-- the two together: the result and its charge file read back, demand 3 for every accepted job, calls that rise in every page, the pages told with
-- the answers, how many turns an operation uses, how many rounds finish every operation, turns dealt, room in the result buffer
pub mod ReadBack
pub mod Demand3
pub mod InOrder
pub mod PagesTold
pub mod MostTurns
pub mod Rounds
pub mod Dealt
pub mod Room
-- tidying: which pages are left, in whatever order they are joined; the tidied file; months one after another
pub mod Tidy
pub mod Months
-- the tariff: bands and log records; the output
pub mod Tariff
pub mod Priced
-- the claims weighed: each field as a test that computes, which some wrong machine fails; a failed test refutes the claim
pub mod Weighed
pub mod Refutes
-- the same for the pages told with the answers; and wrong pages, each of which the claim refuses
pub mod WeighedPages
pub mod RefutesPages
pub mod WrongPages
-- the same for the turns used
pub mod WeighedTurns
pub mod RefutesTurns
-- the same for rounds
pub mod WeighedRounds
pub mod RefutesRounds
-- the same for turns dealt
pub mod WeighedDealt
pub mod RefutesDealt
-- the same for the tariff
pub mod WeighedPriced
pub mod RefutesPriced
