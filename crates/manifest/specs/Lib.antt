pub mod World
pub mod Rising
pub mod Manifest
pub mod Stops
pub mod Holds
pub mod Waiters
