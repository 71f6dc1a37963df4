pub mod Building
pub mod Uses
pub mod Joining
pub mod Applying
pub mod Dropping
pub mod Sets
