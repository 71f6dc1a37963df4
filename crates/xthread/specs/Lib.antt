pub mod Stock
pub mod Answers
pub mod Told
pub mod Turns
