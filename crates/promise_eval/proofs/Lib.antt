pub mod Loose
pub mod Acted
pub mod Ran
