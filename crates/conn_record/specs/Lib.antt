pub mod Records
pub mod Refused
pub mod Generator
