pub mod Comings
pub mod Moves
pub mod Whole
