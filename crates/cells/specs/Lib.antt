pub mod Survey
pub mod Begun
pub mod Ids
