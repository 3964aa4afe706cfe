-- Theorems that rest on definitions which an edit may turn: see specs/Lib.antt.
pub mod Taken
pub mod SameLookUp
pub mod Stores
pub mod Copies
pub mod Harmless
pub mod Used
