-- Theorems of the verdict and of the places of a sheet.
pub mod ConditionLaws
pub mod Earliest
pub mod PlaceLaws
