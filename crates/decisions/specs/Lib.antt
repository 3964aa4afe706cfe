-- Decisions of a matrix, and that those of a sheet's matrix are the sheet's.
pub mod Decisions
pub mod DecisionLaws
