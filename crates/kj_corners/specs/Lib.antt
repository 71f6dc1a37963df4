pub mod Scripts
pub mod AskLists
pub mod Paths
