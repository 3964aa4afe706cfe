-- Laws that the proofs of `hungarian` share.
pub mod Best
pub mod Lowers
