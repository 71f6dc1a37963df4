pub mod Acts
pub mod Histories
pub mod Chains
pub mod Asks
pub mod Ends
pub mod Lines
