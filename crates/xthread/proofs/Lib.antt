pub mod Grows
pub mod Effects
pub mod Whole
pub mod Marks
pub mod Closing
