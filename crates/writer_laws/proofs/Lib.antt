-- What a writer finishes, and how it is read.
pub mod RunLaws
pub mod Verdicts
pub mod DecodedLaws
pub mod Sheets
pub mod Optional
