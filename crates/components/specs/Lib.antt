pub mod Codes
pub mod Cars
pub mod Points
pub mod Sheet
