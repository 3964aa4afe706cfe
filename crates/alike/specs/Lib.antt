pub mod Alike
pub mod Stops
pub mod Zeros
