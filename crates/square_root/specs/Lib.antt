-- The square root: the definition (SquareRoot), what the steps of the code promise (Steps), what a nearest double is (Nearest), worked roots (Vectors);
-- laws of squares (Squares), of a double's digits over an even power of two (Spread) and of what is kept (Kept). That the square root is the nearest
-- double, and how large it can be, is proved in proofs/Nearest, OnlyRoot and Sizes.
pub mod SquareRoot
pub mod Steps
pub mod Squares
pub mod Spread
pub mod Kept
pub mod Nearest
pub mod Vectors
