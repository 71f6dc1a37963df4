pub mod Ends
pub mod Make
pub mod Outputs
pub mod Outside
pub mod Replay
pub mod Run
pub mod Words
