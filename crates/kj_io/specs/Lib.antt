pub mod Causes
pub mod Jobs
pub mod Whole
pub mod MemSource
pub mod MemSink
pub mod Streams
pub mod MemStream
pub mod Standard
