pub mod Pairs
pub mod Added
pub mod Replay
