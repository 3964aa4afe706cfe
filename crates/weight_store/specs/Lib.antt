-- Request F-1, "Weights with a start day": the store's records and what refuses it. Keys: the columns that the code compares. Passed: what a record
-- that is not refused says.
pub mod Entries
pub mod Values
pub mod Refusals
pub mod Passed
pub mod Keys
