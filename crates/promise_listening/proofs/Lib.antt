pub mod Owners
pub mod Settled
pub mod Sides
