-- A twin has the records of its sheet, and is accepted where the sheet is.
pub mod Steps
pub mod Twins
