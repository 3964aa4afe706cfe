-- What a stored matrix asks, and what the matcher's promise says of it.
pub mod Cases
