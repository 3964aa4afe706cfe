-- Laws that the proofs of `multiply_add` share, by the modules of the code; the definition in least doubles (Units), and that it is the nearest double
-- (Nearest).
pub mod WordLaws
pub mod PackLaws
pub mod Units
pub mod Nearest
pub mod SumLaws
