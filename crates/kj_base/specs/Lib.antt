pub mod Commands
pub mod Places
pub mod Queue
pub mod Record
pub mod Store
pub mod Counts
