pub mod LastOne
pub mod Choices
pub mod Plans
pub mod Pieces
