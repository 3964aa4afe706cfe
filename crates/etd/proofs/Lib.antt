-- The halts before a stop, from counts.
pub mod Halts
