-- What follows from the definitions of a pass: its cells (CellLaws), its decisions (Decided), its ties (Ties, over the definitions of specs: Ties).
pub mod CellLaws
pub mod Decided
pub mod Ties
