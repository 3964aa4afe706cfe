-- Document 01, "The sheet and its records" and "Who can cause a refusal".
pub mod Offsets
pub mod Table
pub mod Records
pub mod Refusals
pub mod Refused
pub mod Verdict
pub mod VerdictLaws
pub mod Open
pub mod Readings
pub mod Conditions
pub mod PlaceLaws
pub mod Smallest
