pub mod Cases
pub mod Passes
pub mod Printed
pub mod Tallies
