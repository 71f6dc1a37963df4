pub mod Cuts
pub mod Trees
pub mod Leaves
pub mod Depth
pub mod Maps
pub mod Listed
pub mod Roots
pub mod Kept
