pub mod Hubs
pub mod Listed
pub mod Same
