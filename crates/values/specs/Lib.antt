-- The numbers that a record's fields stand for.
pub mod Values
