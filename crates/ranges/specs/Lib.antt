-- Laws about the calls of iterators over a range.
pub mod Ranges
