-- Vectors.
pub mod Vectors
