pub mod Held
pub mod Named
