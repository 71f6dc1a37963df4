pub mod Paths
pub mod Worked
pub mod Rows
