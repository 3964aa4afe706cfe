pub mod Columns
pub mod Same
pub mod Served
pub mod Walk
