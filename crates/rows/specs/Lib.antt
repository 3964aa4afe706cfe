pub mod KeptLaws
pub mod RowLaws
pub mod HeldLaws
pub mod Gathered
pub mod MatrixLaws
