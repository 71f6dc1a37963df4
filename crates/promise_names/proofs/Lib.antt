pub mod Listless
pub mod Rising
