pub mod Answers
pub mod Commands
pub mod Refusals
pub mod Scripts
pub mod Script
pub mod Telling
pub mod Waits
