pub mod Lists
pub mod Turns
pub mod Compared
pub mod Heads
