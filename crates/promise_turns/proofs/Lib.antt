pub mod Acted
pub mod Answering
pub mod Outliving
pub mod Sided
pub mod Taken
pub mod Tasks
pub mod Tied
