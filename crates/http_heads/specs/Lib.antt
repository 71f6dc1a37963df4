pub mod Values
pub mod Framing
pub mod Left
pub mod Section
pub mod Heads
pub mod Ending
pub mod Marks
