-- The matcher's promise.
pub mod Promise
pub mod Fits
