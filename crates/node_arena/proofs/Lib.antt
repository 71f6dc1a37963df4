pub mod Lists
pub mod Counted
pub mod Standing
pub mod Kept
pub mod Freed
