pub mod Spaced
pub mod Rows
pub mod Unbroken
pub mod Printable
pub mod Again
pub mod Kept
pub mod Sizes
