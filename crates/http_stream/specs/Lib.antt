pub mod Stages
pub mod Standing
pub mod Moves
pub mod Steps
pub mod Served
pub mod Places
