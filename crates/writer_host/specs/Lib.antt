-- The writer for a host.
pub mod Host
pub mod Given
