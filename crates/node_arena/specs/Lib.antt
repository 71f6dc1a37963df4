pub mod Needs
pub mod Arenas
pub mod Laws
