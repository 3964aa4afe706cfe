-- Laws that the proofs of `square_root` share (Turns, Ways, Middle), that the root is the nearest double (Nearest, OnlyRoot), and how large it can be
-- (Sizes).
pub mod Turns
pub mod Middle
pub mod Ways
pub mod Nearest
pub mod OnlyRoot
pub mod Sizes
