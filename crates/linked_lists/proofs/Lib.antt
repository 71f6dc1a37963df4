pub mod Paths
pub mod Rings
pub mod Reading
pub mod Changed
