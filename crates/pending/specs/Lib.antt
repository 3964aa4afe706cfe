pub mod Masks
pub mod Same
