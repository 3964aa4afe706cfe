-- a × b + c with one rounding: the definition (MulAdd), what a nearest double is (Nearest), how large it can be (Sizes), its controls and worked
-- examples; and what the steps of the code promise (Steps). That the result is the nearest double is proved in proofs/Nearest.
pub mod MulAdd
pub mod Nearest
pub mod Sizes
pub mod Controls
pub mod Vectors
pub mod Steps
