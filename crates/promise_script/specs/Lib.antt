pub mod ScriptText
pub mod Decode
pub mod Assembly
pub mod Scripts
pub mod Left
pub mod Kept
