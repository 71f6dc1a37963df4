pub mod Chunks
pub mod Reader
pub mod Pieces
pub mod Progress
pub mod Lengths
pub mod Written
