pub mod Agreeing
pub mod Keeping
pub mod Lefts
pub mod Orders
pub mod Sorting
pub mod Printing
