-- Laws that the proofs of `scale` share.
pub mod Rounding
