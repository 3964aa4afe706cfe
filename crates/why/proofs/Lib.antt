-- That the terms of a pair tell its cell (Costs).
pub mod Costs
