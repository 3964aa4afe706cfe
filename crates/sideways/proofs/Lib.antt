-- That a twin passes as its sheet.
pub mod TwinPass
