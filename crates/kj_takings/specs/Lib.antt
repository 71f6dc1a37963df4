pub mod Alike
pub mod Spared
pub mod Calls
pub mod Worked
pub mod Arming
pub mod Told
