-- The assignment problem: what a choice is, which one is asked for, and what it is made of. What is known of it stands in proofs/.
--   Choice      definitions: choices, totals, the choice that is asked for
--   Recursion   definition: that choice by plain recursion
--   Marked      definition: marked cells
--   Prices      definitions: prices of rows and columns
--   Along       sums along a choice
--   Insertion   one row more in a matching with prices, step by step
pub mod Choice
pub mod Recursion
pub mod Along
pub mod Marked
pub mod Prices
pub mod Insertion
