-- Lowest columns by searches of the equality graph.
pub mod Shifts
pub mod Unreachable
pub mod Search
pub mod Settled
