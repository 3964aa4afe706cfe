-- Laws that every crate cites, each once.
pub mod Bools
pub mod Folds
pub mod Counts
pub mod First
pub mod Sums
pub mod Tables
pub mod Collected
