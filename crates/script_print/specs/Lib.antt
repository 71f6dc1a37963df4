pub mod Printed
pub mod Again
