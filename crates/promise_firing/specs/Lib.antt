pub mod Ground
pub mod Closed
pub mod Events
pub mod Outliving
pub mod Left
pub mod Stages
pub mod Ending
