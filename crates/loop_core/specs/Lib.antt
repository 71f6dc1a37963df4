pub mod Loops
pub mod Calls
pub mod Waits
pub mod Frees
