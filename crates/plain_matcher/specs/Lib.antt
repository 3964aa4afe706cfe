-- The plain matcher's promise, and what its recursion holds. That it chooses as the fast one does stands in proofs/AsTheFast.
pub mod Promise
pub mod Held
