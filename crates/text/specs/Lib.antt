pub mod Counts
pub mod Digits
pub mod Text
pub mod Lines
