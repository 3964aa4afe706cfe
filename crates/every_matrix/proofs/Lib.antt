pub mod Characters
pub mod Once
