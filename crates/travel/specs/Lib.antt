-- The time of a run with ramps: its terms (Ramps), the domain (Domain), what is answered (Answers); that the sign of a zero does not matter in it (Zeros),
-- and worked runs (Vectors). That the time is finite is proved in proofs/Finite.antt.
pub mod Ramps
pub mod Domain
pub mod Answers
pub mod Zeros
pub mod Vectors
