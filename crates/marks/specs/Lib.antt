-- Marked cells.
pub mod Marks
