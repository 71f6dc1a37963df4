pub mod Steps
pub mod Actions
pub mod Table
pub mod Server
