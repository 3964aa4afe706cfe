-- Rounding once, to the nearest double: laws of the logic's `round` and `sum` that a proof about the bits needs.
pub mod Closest
pub mod Sums
pub mod Sticky
pub mod Jam
pub mod Unpack
pub mod Pack
pub mod Signed
pub mod Nearest
