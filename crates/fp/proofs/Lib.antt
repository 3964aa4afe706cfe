-- Laws that the proofs of `fp` share.
pub mod Signs
