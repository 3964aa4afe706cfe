-- Every matrix of 2 cars and 3 columns with cells 0 to 2, a line each.
pub mod EveryMatrix
pub mod Laws
pub mod Once
