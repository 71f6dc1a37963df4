pub mod Order
pub mod Items
pub mod Following
pub mod Kept
