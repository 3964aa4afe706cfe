-- The proof of demand 3 (TwoPasses), and that it settles the total (Exact).
pub mod TwoPasses
pub mod Exact
