-- Costs as cells.
pub mod Scale
pub mod Cases
