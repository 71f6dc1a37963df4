pub mod Shown
pub mod Kept
pub mod Once
pub mod Members
