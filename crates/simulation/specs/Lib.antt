-- what a memory shows of a state
pub mod Shown
pub mod RowBack
pub mod Begun
-- turn by turn, stage by stage
pub mod Picture
pub mod Steady
pub mod Moves
pub mod Reads
pub mod Searching
pub mod Holding
pub mod Splitting
-- the step on bytes is the machine's step, and may be taken
pub mod Sim
pub mod Idle
pub mod SafeTurns
