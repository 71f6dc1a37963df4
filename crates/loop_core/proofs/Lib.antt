pub mod Called
pub mod Ending
pub mod Turning
pub mod Held
pub mod WaitEnds
pub mod WaitParts
pub mod WaitTurns
