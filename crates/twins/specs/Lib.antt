pub mod Written
pub mod Twin
pub mod Views
pub mod Looks
pub mod Bodies
pub mod Worked
